use Rattle.std.proofs.Common.{◌≡◌, true, sym, ap, ◌∙◌, subst}
use Rattle.sync_types.specs.FaultSets.{FaultIds, is_in}
use Rattle.state_codec.specs.Shapes.{Shape, fields_at}
use Rattle.state_codec.specs.Ranges.{InRange}
use Rattle.adversary_script.proofs.LiesInRange.{depth_of_node}
use Rattle.machine_runner.proofs.Heard.{is_among}
use Rattle.round_runner.proofs.turns.RoundLies.tell.Goals as goal

-- who tells it is faulty in the round
pub lie_into-requires-clause-sender : goal.lie_into-requires-clause-sender
lie_into-requires-clause-sender c =
    let round = c.args.self.now in
    let is = c.requires.tells in
    let ids = ap (λ (s : FaultIds). s.ids) (is.faulty ∙ round.liars) in
    subst (λ xs. is_in xs c.args.u ≡ true) ids
    (subst (λ u. is_in c.args.hearer.now.faulty.now.ids u ≡ true) c.requires.id
    (is_among c.args.hearer.now.faulty.now.ids c.args._j c.requires.place))

pub lie_into-requires-clause-size : goal.lie_into-requires-clause-size
lie_into-requires-clause-size c = c.args.hearer.now.size ∙ c.requires.tells.nodes

pub lie_into-requires-clause-depth : goal.lie_into-requires-clause-depth
lie_into-requires-clause-depth c =
    c.requires.depth ∙ ap (λ (s : Shape). s.depth) c.requires.tells.shape

pub returns-clause-deep : goal.returns-clause-deep
returns-clause-deep c =
    depth_of_node c.args.self.now.script.now.shape c.args.u _ c.lie_into.ensures.range
    ∙ sym (ap (λ (s : Shape). s.depth) c.requires.tells.shape)

pub returns-clause-range : goal.returns-clause-range
returns-clause-range c =
    c.args.hearer.now.takes.counts c.args.u c.requires.node _
    (subst (λ (s : Shape). InRange (fields_at s c.args.u) c.lie_into.new.out)
    (sym c.requires.tells.shape) c.lie_into.ensures.range)
