use Rattle.edge_io.proofs.Writing.{writes_then}
use Rattle.picture_parts.proofs.squares.put_column_head.Goals as goal

pub returns : goal.returns
returns g c =
    writes_then c.put_axes_at.ensures
    (rw (
      c.column_middle.ensures,
      c.band_top.ensures.value,
      c.from.ensures,
      c.from-2.ensures,
    ) at c.put_number_at.ensures)
