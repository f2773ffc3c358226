use Rattle.picture_parts.proofs.marks.put_mark_at.Goals as goal

pub returns : goal.returns
returns g c =
    rw (
      c.column_left-x.ensures.value,
      c.band_top-top.ensures.value,
      c.from.ensures,
      c.from-2.ensures,
    ) at c.pieces.ensures
