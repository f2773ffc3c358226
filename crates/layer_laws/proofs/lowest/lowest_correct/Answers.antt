use Rattle.std.proofs.Common.{sym, ◌∙◌}
use Rattle.layer_laws.proofs.LowestCorrect.{lowest_is, lowest_is_none}
use Rattle.layer_laws.proofs.lowest.lowest_correct.Goals as goal

pub returns-then-not-contains-clause-value : goal.returns-then-not-contains-clause-value
returns-then-not-contains-clause-value c =
    lowest_is c.args.nodes c.args.faulty.now.ids c.loop-v.v c.loop-v-test.true c.loop-v.invariant
    (sym c.contains.ensures ∙ c.if-not-contains.true)

pub returns-clause-value : goal.returns-clause-value
returns-clause-value c =
    lowest_is_none c.args.nodes c.args.faulty.now.ids c.loop-v.v c.loop-v-test.false
    c.loop-v.invariant
