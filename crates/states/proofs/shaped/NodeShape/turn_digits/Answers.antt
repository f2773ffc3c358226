use Rattle.std.proofs.Common.{◌∙◌}
use Rattle.state_codec.proofs.Lows.{depth_at}
use Rattle.states.proofs.shaped.NodeShape.turn_digits.Goals as goal

pub push_words-requires : goal.push_words-requires
push_words-requires c =
    let self = c.args.self.now in
    c.in-Ok.ensures.range.depth ∙ depth_at self.shape.now self.node
