use Rattle.run_pictures.proofs.sweep_pictures.put_tick.Goals as goal

pub returns : goal.returns
returns g c =
    rw (c.bar_left-x.ensures, c.sweep_bottom-bottom.ensures.value) at c.pieces.ensures
