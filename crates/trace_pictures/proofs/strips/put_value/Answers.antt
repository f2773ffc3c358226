use Rattle.trace_pictures.proofs.strips.put_value.Goals as goal

pub returns-in-Some : goal.returns-in-Some
returns-in-Some g c =
    rw c.in-Some.is
    (rw (c.middle.ensures.value, c.spot_top.ensures.value) at c.put_number_at.ensures)

pub returns-in-None : goal.returns-in-None
returns-in-None g c = rw c.in-None.is c.put_cross.ensures
