use Rattle.edge_io.proofs.Writing.{writes_then}
use Rattle.run_pictures.proofs.sweep_pictures.SweepFigure.put_text.Goals as goal

pub returns : goal.returns
returns g c =
    writes_then c.put_bound.ensures (rw c.lines.ensures at c.put_tally_lines.ensures)
