use Rattle.edge_io.proofs.Writing.{writes_none, writes_at}
use Rattle.trace_pictures.specs.Strips.{reign_picture}
use Rattle.trace_pictures.proofs.turns.put_reigns.Goals as goal

pub loop-i-init : goal.loop-i-init
loop-i-init g c = writes_none

pub loop-i-preserved : goal.loop-i-preserved
loop-i-preserved g c =
    writes_at (reign_picture c.args.frame) c.args.reigns.now c.loop-i.i _ c.loop-i-test.true
    c.loop-i.invariant c.put_reign.ensures
