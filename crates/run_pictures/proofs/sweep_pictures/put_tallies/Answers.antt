use Rattle.edge_io.proofs.Writing.{writes_none, writes_at}
use Rattle.run_pictures.specs.SweepPictures.{tally_picture}
use Rattle.run_pictures.proofs.sweep_pictures.put_tallies.Goals as goal

pub loop-i-init : goal.loop-i-init
loop-i-init g c = writes_none

pub loop-i-preserved : goal.loop-i-preserved
loop-i-preserved g c =
    writes_at (tally_picture c.args.sweep.now) c.args.tallies.now c.loop-i.i _ c.loop-i-test.true
    c.loop-i.invariant c.put_tally.ensures
