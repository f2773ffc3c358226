use Rattle.std.proofs.Common.{arith}
use Rattle.edge_io.proofs.Writing.{writes_next, writes_none}
use Rattle.run_pictures.specs.ChoicePictures.{decade_line}
use Rattle.run_pictures.proofs.choice_pictures.put_decades.Goals as goal

pub loop-decade-init : goal.loop-decade-init
loop-decade-init g c = writes_none

pub loop-decade-preserved : goal.loop-decade-preserved
loop-decade-preserved g c =
    writes_next (decade_line c.args.base) 0 c.loop-decade.decade c.loop-decade.decade
    c.loop-decade.invariant c.put_decade.ensures (omega arith)
