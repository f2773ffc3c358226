use Rattle.std.proofs.Common.{◌<◌, length, ◌∙◌, ap, arith}
use Rattle.sync_types.specs.States.{State}
use Rattle.adversary_script.proofs.LiesInRange.{depth_of_node}
use Rattle.machine_runner.proofs.Laid.{one_laid, all_laid}
use Rattle.machine_runner.proofs.hearing.lay.Goals as goal

pub loop-v-preserved : goal.loop-v-preserved
loop-v-preserved c =
    let lt : c.loop-v.v < length c.args.states.now.current =
    omega (arith, c.loop-v-test.true, c.nodes-v-end.ensures.current) in
    one_laid c.args.states.now.current _ c.loop-v.v c.loop-v.heard c.old.new.out lt
    c.loop-v.invariant c.old.ensures
    (ap (λ (s : State). length s.registers) c.old.ensures
    ∙ depth_of_node c.args.states.now.shape c.loop-v.v _ (c.facts.ensures.current c.loop-v.v lt))

pub returns : goal.returns
returns c = all_laid c.args.states.now.current _ c.loop-v.v c.loop-v.heard
    (omega (arith, c.loop-v-test.false, c.nodes-v-end.ensures.current)) c.loop-v.invariant
