use Rattle.std.proofs.Common.{◌∙◌, ◌∷◌, sym}
use Rattle.state_codec.specs.Shapes.{fields_at}
use Rattle.state_codec.proofs.Lows.{fields_limited}
use Rattle.states.proofs.SaidInRange.{state_in_range}
use Rattle.states.proofs.shaped.NodeShape.turn_words.Goals as goal

pub push_digits-requires : goal.push_digits-requires
push_digits-requires c =
    let self = c.args.self.now in
    state_in_range (fields_at self.shape.now self.node) (c.args.key.now ∷ c.args.words.now)
    c.in-Some.state (fields_limited self.shape.now self.node c.facts.ensures)
    (sym c.in_ok-state.ensures ∙ c.in-Some.is)
