use Rattle.run_pictures.proofs.sweep_pictures.put_worst_front.Goals as goal

pub returns-in-Some : goal.returns-in-Some
returns-in-Some g c =
    rw c.in-Some.is (rw (c.from-y.ensures, c.from-total.ensures) at c.put_total.ensures)

pub returns-in-None : goal.returns-in-None
returns-in-None g c =
    rw c.in-None.is (rw (c.from-y.ensures, c.from-total.ensures) at c.put_total-in-None.ensures)
