use Rattle.run_pictures.proofs.choice_pictures.ChoiceFigure.put_picture.Goals as goal

pub returns : goal.returns
returns g c =
    rw (c.decades_of-decades.ensures.value, c.deref-points.ensures.value)
    at c.put_choice_in.ensures
