use Rattle.run_pictures.proofs.choice_pictures.put_numbers.Goals as goal

pub returns : goal.returns
returns g c = rw (c.point_left.ensures.value, c.from.ensures) at c.pieces.ensures
