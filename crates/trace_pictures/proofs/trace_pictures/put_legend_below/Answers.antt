use Rattle.edge_io.proofs.Writing.{writes_then}
use Rattle.trace_pictures.proofs.trace_pictures.put_legend_below.Goals as goal

pub returns : goal.returns
returns g c =
    writes_then (rw c.bottom.ensures.value at c.put_colour_legend.ensures)
    (writes_then (rw c.bottom-2.ensures.value at c.put_legend.ensures)
    (rw (c.are_groups.ensures, c.bottom-3.ensures.value) at c.put_group_legend_if.ensures))
