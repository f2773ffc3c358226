use Rattle.trace_pictures.proofs.strips.put_register_ground.Goals as goal

pub returns-in-None : goal.returns-in-None
returns-in-None g c = rw c.in-None.is c.text.ensures

pub returns-in-Unmarked : goal.returns-in-Unmarked
returns-in-Unmarked g c = rw (c.in-Some.is, c.in-Unmarked.is) c.text-in-Unmarked.ensures

pub returns-in-Marked : goal.returns-in-Marked
returns-in-Marked g c = rw (c.in-Some.is, c.in-Marked.is) c.text-in-Marked.ensures

pub returns-in-Locked : goal.returns-in-Locked
returns-in-Locked g c = rw (c.in-Some.is, c.in-Locked.is) c.text-in-Locked.ensures
