use Rattle.edge_io.proofs.Writing.{writes_none, writes_at, writes_then}
use Rattle.run_pictures.specs.Charts.{cell_words}
use Rattle.run_pictures.proofs.printing.put_rows.Goals as goal

pub loop-i-init : goal.loop-i-init
loop-i-init g c = writes_none

pub loop-i-preserved : goal.loop-i-preserved
loop-i-preserved g c =
    writes_at (cell_words c.args.first c.args.nodes) c.args.cells.now c.loop-i.i _
    c.loop-i-test.true c.loop-i.invariant
    (writes_then c.put_front.ensures (writes_then c.put_word.ensures c.put_row_end.ensures))
