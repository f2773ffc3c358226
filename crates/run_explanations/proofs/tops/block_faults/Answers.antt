use Rattle.std.proofs.Common.{arith}
use Rattle.run_explanations.proofs.TopNumbers.{faults_read, faults_none}
use Rattle.run_explanations.proofs.tops.block_faults.Goals as goal

pub returns-then-depth-lt2 : goal.returns-then-depth-lt2
returns-then-depth-lt2 c =
    faults_none c.args.plan.now (omega (arith, c.depth-depth.ensures.value, c.if-depth-lt2.true))

pub returns : goal.returns
returns c =
    faults_read c.args.plan.now _ c.level.result.now
    (omega (arith, c.depth-depth.ensures.value, c.if-depth-lt2.false))
    (omega (arith, c.depth-depth.ensures.value)) c.level.ensures.value
