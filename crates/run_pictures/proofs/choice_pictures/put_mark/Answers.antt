use Rattle.run_pictures.proofs.choice_pictures.put_mark.Goals as goal

pub returns : goal.returns
returns g c =
    rw (
      c.point_left-x.ensures.value,
      c.point_top-y.ensures.value,
      c.mark_word.ensures,
      c.is_halving.ensures,
    ) at c.pieces.ensures
