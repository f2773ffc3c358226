use Rattle.halving_texts.proofs.table_writing.put_halves_end.Goals as goal

pub returns : goal.returns
returns g c =
    rw (
      c.right_share.ensures,
      c.left_share.ensures,
      c.right_period.ensures,
      c.from.ensures,
      c.faults.ensures,
      c.left.ensures,
      c.from-2.ensures,
      c.faults-2.ensures,
      c.right.ensures,
      c.spares.ensures,
    ) at c.pieces.ensures
