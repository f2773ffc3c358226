use Rattle.edge_io.proofs.Writing.{writes_none, writes_at}
use Rattle.run_pictures.specs.Pictures.{end_picture}
use Rattle.run_pictures.proofs.marks.put_ends.Goals as goal

pub loop-i-init : goal.loop-i-init
loop-i-init g c = writes_none

pub loop-i-preserved : goal.loop-i-preserved
loop-i-preserved g c =
    writes_at (end_picture c.args.chart.now) c.args.ends.now c.loop-i.i _ c.loop-i-test.true
    c.loop-i.invariant c.put_end_picture.ensures
