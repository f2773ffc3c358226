use Rattle.std.proofs.Common.{arith, ap, subst, length}
use Rattle.state_codec.specs.Shapes.{shape_nodes}
use Rattle.state_codec.specs.Packs.{Pack, AreOfShape}
use Rattle.state_codec.proofs.Holding.{length-states, all_in_range}
use Rattle.state_codec.proofs.packed.Packed.facts.Goals as goal

pub returns-clause-few : goal.returns-clause-few
returns-clause-few c =
    let inside = c.self.inside in
    omega (
      arith,
      length-states inside.shape inside.nodes inside.current.items,
      ap (λ (p : Pack). length p.current) c.self.view_is,
      ap (λ (p : Pack). shape_nodes p.shape) c.self.view_is,
      c.self.invariant.few,
    )

pub returns-clause-size : goal.returns-clause-size
returns-clause-size c =
    let inside = c.self.inside in
    omega (
      arith,
      length-states inside.shape inside.nodes inside.current.items,
      length-states inside.shape inside.nodes inside.next.items,
      ap (λ (p : Pack). length p.current) c.self.view_is,
      ap (λ (p : Pack). length p.next) c.self.view_is,
    )

pub returns-clause-current : goal.returns-clause-current
returns-clause-current c =
    let inside = c.self.inside in
    subst (λ (p : Pack). AreOfShape p.shape p.current) c.self.view_is
    (all_in_range inside.shape inside.nodes inside.current.items c.self.invariant.sound)

pub returns-clause-next : goal.returns-clause-next
returns-clause-next c =
    let inside = c.self.inside in
    subst (λ (p : Pack). AreOfShape p.shape p.next) c.self.view_is
    (all_in_range inside.shape inside.nodes inside.next.items c.self.invariant.sound)
