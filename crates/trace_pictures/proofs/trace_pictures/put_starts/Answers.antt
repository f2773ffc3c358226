use Rattle.edge_io.proofs.Writing.{writes_none, writes_at}
use Rattle.trace_pictures.specs.TracePictures.{start_mark}
use Rattle.trace_pictures.proofs.trace_pictures.put_starts.Goals as goal

pub loop-i-init : goal.loop-i-init
loop-i-init g c = writes_none

pub loop-i-preserved : goal.loop-i-preserved
loop-i-preserved g c =
    writes_at (start_mark c.args.frame c.args.cells) c.args.eras.now c.loop-i.i _ c.loop-i-test.true
    c.loop-i.invariant c.put_mark_at.ensures
