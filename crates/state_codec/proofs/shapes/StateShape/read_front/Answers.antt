use Rattle.std.proofs.Common.{length, ap, sym, ◌∙◌}
use Rattle.state_codec.specs.Shapes.{Fields}
use Rattle.state_codec.proofs.Lows.{depth_at}
use Rattle.state_codec.proofs.shapes.StateShape.read_front.Goals as goal

pub read_front-requires-clause-depth : goal.read_front-requires-clause-depth
read_front-requires-clause-depth c = c.requires.depth
    ∙ sym (ap (λ (f : Fields). length f.moduli) c.fields.ensures
    ∙ depth_at c.args.self.now c.args.v)
