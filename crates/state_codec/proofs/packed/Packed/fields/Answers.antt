use Rattle.std.proofs.Common.{arith, ap, ◌∙◌, length}
use Rattle.state_codec.specs.Shapes.{Fields}
use Rattle.state_codec.specs.Packs.{Pack}
use Rattle.state_codec.proofs.Lows.{depth_at}
use Rattle.state_codec.proofs.Holding.{length-states}
use Rattle.state_codec.proofs.packed.Packed.fields.Goals as goal

pub fields-requires : goal.fields-requires
fields-requires c =
    let inside = c.self.inside in
    omega (
      arith,
      c.requires,
      length-states inside.shape inside.nodes inside.current.items,
      ap (λ (p : Pack). length p.current) c.self.view_is,
      c.self.invariant.few,
    )

pub returns-clause-depth : goal.returns-clause-depth
returns-clause-depth c =
    ap (λ (f : Fields). length f.moduli) c.fields.ensures
    ∙ (depth_at c.self.inside.shape c.args.v ∙ ap (λ (p : Pack). p.shape.depth) c.self.view_is)
