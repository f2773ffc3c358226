use Rattle.edge_io.proofs.Writing.{writes_then}
use Rattle.run_pictures.proofs.sweep_pictures.SweepFigure.put_picture.Goals as goal

pub returns : goal.returns
returns g c =
    writes_then
    (rw (c.max-width.ensures, c.sweep_right.ensures.value, c.sweep_bottom.ensures.value)
    at c.put_front.ensures)
    (writes_then c.put_ground.ensures
    (writes_then (rw c.numbers.ensures at c.put_ticks.ensures)
    (writes_then c.put_bound_mark.ensures
    (writes_then (rw c.lines.ensures at c.put_tallies.ensures) c.put_foot.ensures))))
