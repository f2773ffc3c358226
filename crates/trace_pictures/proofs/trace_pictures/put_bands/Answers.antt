use Rattle.edge_io.proofs.Writing.{writes_then}
use Rattle.trace_pictures.proofs.trace_pictures.put_bands.Goals as goal

pub returns : goal.returns
returns g c =
    writes_then (rw c.lines.ensures at c.put_note_pictures.ensures)
    (writes_then (rw c.turns.ensures at c.put_reigns.ensures)
    (writes_then (rw c.heads.ensures at c.put_titles.ensures)
    (rw c.starts.ensures at c.put_starts.ensures)))
