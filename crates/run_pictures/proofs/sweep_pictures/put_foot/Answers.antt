use Rattle.run_pictures.proofs.sweep_pictures.put_foot.Goals as goal

pub returns : goal.returns
returns g c =
    rw (c.sweep_bottom-bottom.ensures.value, c.none_middle.ensures, c.from.ensures)
    at c.pieces.ensures
