use Rattle.std.proofs.Common.{◌≡◌, ◌∙◌, sym, ap, subst}
use Rattle.state_codec.specs.Shapes.{fields_at}
use Rattle.states.specs.Puts.{PutsTurned}
use Rattle.states.specs.Turned.{rest_turned, words_turned, line_turned}
use Rattle.states.proofs.turning.turn.Goals as goal

pub returns : goal.returns
returns c =
    let node = c.in_ok-node.node in
    let words = c.node_of.new.words in
    let is : rest_turned (fields_at node.shape.now node.node) node.node words
    ≡ line_turned c.args.shape.now c.args.line.now =
    ap (λ s. rest_turned (fields_at s node.node) node.node words) c.in_ok-node.ensures.0
    ∙ sym c.in_ok-node.ensures.1 ∙ ap (words_turned c.args.shape.now) c.new-words.ensures in
    subst
    (λ turned. PutsTurned turned c.turn_rest.result c.args.out.now.items
    c.turn_rest.new.out.items) is c.turn_rest.ensures
