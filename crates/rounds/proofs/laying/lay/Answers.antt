use Rattle.std.proofs.Common.{◌<◌, length, ◌∙◌, ap, arith}
use Rattle.sync_types.specs.States.{State}
use Rattle.rounds.proofs.LaidBelow.{one_laid, all_laid}
use Rattle.rounds.proofs.Hearing.{depth_of_node}
use Rattle.rounds.proofs.laying.lay.Goals as goal

pub loop-v-preserved : goal.loop-v-preserved
loop-v-preserved c =
    let lt : c.loop-v.v < length c.args.states.now.current =
    omega (arith, c.loop-v-test.true, c.nodes-v-end.ensures.current) in
    one_laid c.args.states.now.current _ c.loop-v.v c.loop-v.heard c.old.new.out lt
    c.loop-v.invariant c.old.ensures
    (ap (λ (s : State). length s.registers) c.old.ensures
    ∙ depth_of_node c.args.states.now.shape c.loop-v.v _ (c.facts.ensures.current c.loop-v.v lt))

pub returns-clause-deep : goal.returns-clause-deep
returns-clause-deep c = c.loop-v.invariant.deep

pub returns-clause-states : goal.returns-clause-states
returns-clause-states c = all_laid c.args.states.now.current _ c.loop-v.v c.loop-v.heard
    (omega (arith, c.loop-v-test.false, c.nodes-v-end.ensures.current)) c.loop-v.invariant
