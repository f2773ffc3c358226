use Rattle.std.proofs.Common.{arith}
use Rattle.edge_io.proofs.Writing.{writes_none}
use Rattle.plan_certificate.proofs.LevelLines.{writes_level, writes_levels}
use Rattle.plan_certificate.proofs.tables.put_levels.Goals as goal

pub loop-i-init : goal.loop-i-init
loop-i-init g c = writes_none

pub loop-i-preserved : goal.loop-i-preserved
loop-i-preserved g c =
    writes_level c.args.plan.now c.loop-i.i _ c.level.ensures.value c.loop-i.invariant
    (rw c.version.ensures at c.put_level.ensures)

pub returns : goal.returns
returns g c = writes_levels c.args.plan.now c.loop-i.i (omega arith) c.loop-i.invariant
