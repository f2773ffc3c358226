use Rattle.std.proofs.Common.{arith, ap, length}
use Rattle.state_codec.specs.Packs.{Pack}
use Rattle.state_codec.proofs.Holding.{length-states}
use Rattle.state_codec.proofs.packed.Packed.nodes.Goals as goal

pub returns-clause-current : goal.returns-clause-current
returns-clause-current c =
    let inside = c.self.inside in
    omega (
      arith,
      length-states inside.shape inside.nodes inside.current.items,
      ap (λ (p : Pack). length p.current) c.self.view_is,
    )

pub returns-clause-next : goal.returns-clause-next
returns-clause-next c =
    let inside = c.self.inside in
    omega (
      arith,
      length-states inside.shape inside.nodes inside.next.items,
      ap (λ (p : Pack). length p.next) c.self.view_is,
    )
