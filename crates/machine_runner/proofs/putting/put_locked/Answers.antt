use Rattle.edge_io.proofs.Writing.{writes_then}
use Rattle.machine_runner.proofs.putting.put_locked.Goals as goal

pub returns-in-Some : goal.returns-in-Some
returns-in-Some g c = rw c.in-Some.is (writes_then c.labelled.ensures c.byte.ensures)

pub returns-in-None : goal.returns-in-None
returns-in-None g c = rw c.in-None.is c.text.ensures
