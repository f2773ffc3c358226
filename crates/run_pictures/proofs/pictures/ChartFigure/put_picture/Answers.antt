use Rattle.edge_io.proofs.Writing.{writes_then}
use Rattle.run_pictures.proofs.pictures.ChartFigure.put_picture.Goals as goal

pub returns : goal.returns
returns g c =
    let frame = c.frame-frame.ensures in
    let bottom = c.bottom-bottom.ensures.value in
    let ends = c.lines-ends.ensures in
    writes_then (rw (c.picture_width.ensures, bottom, frame, ends) at c.put_front.ensures)
    (writes_then c.put_ground.ensures
    (writes_then (rw (frame, c.words.ensures) at c.put_cells.ensures)
    (writes_then
    (writes_then (rw frame at c.put_span.ensures)
    (writes_then (rw (bottom, frame, c.from.ensures) at c.put_number_caption.ensures)
    (rw (bottom, frame) at c.put_number_caption-2.ensures)))
    (writes_then (rw ends at c.put_ends.ensures)
    (writes_then
    (writes_then (rw (bottom, frame, ends) at c.put_colour_legend.ensures)
    (rw (bottom, frame, ends) at c.put_cell_legend.ensures))
    c.text.ensures)))))
