use Rattle.run_pictures.proofs.sweep_pictures.put_bound_mark.Goals as goal

pub returns : goal.returns
returns g c =
    rw (
      c.bound_middle-x.ensures,
      c.sweep_bottom-bottom.ensures.value,
      c.beyond_words.ensures,
    ) at c.pieces.ensures
