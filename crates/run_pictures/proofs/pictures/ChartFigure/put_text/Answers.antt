use Rattle.edge_io.proofs.Writing.{writes_then}
use Rattle.run_pictures.proofs.pictures.ChartFigure.put_text.Goals as goal

pub returns : goal.returns
returns g c =
    writes_then c.put_bound.ensures
    (writes_then (rw c.words.ensures at c.put_rows.ensures)
    (rw c.lines.ensures at c.put_end_lines.ensures))
