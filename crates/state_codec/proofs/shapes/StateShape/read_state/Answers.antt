use Rattle.std.proofs.Common.{length, ap, sym, ◌∙◌}
use Rattle.state_codec.specs.Shapes.{Fields}
use Rattle.state_codec.proofs.Lows.{depth_at}
use Rattle.state_codec.proofs.shapes.StateShape.read_state.Goals as goal

pub read_state-requires : goal.read_state-requires
read_state-requires c = c.requires.depth
    ∙ sym (ap (λ (f : Fields). length f.moduli) c.fields.ensures
    ∙ depth_at c.args.self.now c.args.v)
