use Rattle.edge_io.proofs.Writing.{writes_then}
use Rattle.machine_runner.proofs.putting.put_bound.Goals as goal

pub returns : goal.returns
returns g c = writes_then c.labelled.ensures c.byte.ensures
