use Rattle.edge_io.proofs.Writing.{writes_none, writes_at}
use Rattle.trace_pictures.specs.TracePictures.{level_caption}
use Rattle.trace_pictures.proofs.trace_pictures.put_levels.Goals as goal

pub loop-i-init : goal.loop-i-init
loop-i-init g c = writes_none

pub loop-i-preserved : goal.loop-i-preserved
loop-i-preserved g c =
    writes_at (level_caption c.args.frame) c.args.levels.now c.loop-i.i _ c.loop-i-test.true
    c.loop-i.invariant c.put_level.ensures
