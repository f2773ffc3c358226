use Rattle.edge_io.proofs.Writing.{writes_then}
use Rattle.trace_pictures.proofs.trace_pictures.TraceFigure.put_picture.Goals as goal

pub returns : goal.returns
returns g c =
    let bottom = c.bottom-bottom.ensures.value in
    let levels = c.captions-levels.ensures in
    let groups = rw c.are_groups.ensures at c.group_height-groups.ensures in
    writes_then (rw (c.picture_width.ensures, bottom, groups, levels) at c.put_front.ensures)
    (writes_then c.put_ground.ensures
    (writes_then c.put_dots.ensures
    (writes_then c.put_bands.ensures
    (writes_then
    (writes_then c.put_span.ensures
    (rw (bottom, c.from.ensures) at c.put_number_caption.ensures))
    (writes_then
    (writes_then (rw levels at c.put_levels.ensures) (rw levels at c.put_legend_below.ensures))
    c.text.ensures)))))
