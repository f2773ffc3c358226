use Rattle.edge_io.proofs.Writing.{writes_then}
use Rattle.run_pictures.proofs.marks.put_end_picture.Goals as goal

pub returns : goal.returns
returns g c =
    writes_then c.put_era_mark.ensures
    (writes_then c.put_bound_mark.ensures
    (writes_then c.put_locked_mark.ensures
    (writes_then
    (rw (c.bottom.ensures.value, c.frame.ensures, c.from.ensures) at c.pieces.ensures)
    (writes_then c.put_end.ensures c.text.ensures))))
