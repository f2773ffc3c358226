use Rattle.std.proofs.Common.{arith}
use Rattle.edge_io.proofs.Writing.{writes_none}
use Rattle.plan_reader.proofs.LevelTexts.{writes_level, writes_levels}
use Rattle.choose.specs.FrontText.{level_part}
use Rattle.choose.proofs.writing.put_levels.Goals as goal

pub loop-i-init : goal.loop-i-init
loop-i-init g c = writes_none

pub loop-i-preserved : goal.loop-i-preserved
loop-i-preserved g c =
    writes_level level_part c.args.plan.now c.loop-i.i _ c.level.ensures.value
    c.loop-i.invariant c.put_level.ensures

pub returns : goal.returns
returns g c =
    writes_levels level_part c.args.plan.now c.loop-i.i (omega arith) c.loop-i.invariant
