use Rattle.edge_io.proofs.Writing.{writes_none, writes_at}
use Rattle.run_pictures.specs.Cells.{cell_picture}
use Rattle.run_pictures.proofs.cells.put_cells.Goals as goal

pub loop-i-init : goal.loop-i-init
loop-i-init g c = writes_none

pub loop-i-preserved : goal.loop-i-preserved
loop-i-preserved g c =
    writes_at (cell_picture c.args.frame) c.args.cells.now c.loop-i.i _ c.loop-i-test.true
    c.loop-i.invariant c.put_cell.ensures
