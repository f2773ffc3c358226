use Rattle.edge_io.proofs.Writing.{writes_none, writes_at, writes_then}
use Rattle.run_pictures.specs.Sweeps.{tally_line}
use Rattle.run_pictures.proofs.sweep_printing.put_tally_lines.Goals as goal

pub loop-i-init : goal.loop-i-init
loop-i-init g c = writes_none

pub loop-i-preserved : goal.loop-i-preserved
loop-i-preserved g c =
    writes_at tally_line c.args.tallies.now c.loop-i.i _ c.loop-i-test.true
    c.loop-i.invariant (writes_then c.put_tally_words.ensures c.text.ensures)
