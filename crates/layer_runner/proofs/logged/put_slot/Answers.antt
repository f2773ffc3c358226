use Rattle.edge_io.proofs.Writing.{writes_then}
use Rattle.layer_runner.proofs.logged.put_slot.Goals as goal

pub returns : goal.returns
returns g c = writes_then c.labelled.ensures (rw c.from.ensures at c.labelled-2.ensures)
