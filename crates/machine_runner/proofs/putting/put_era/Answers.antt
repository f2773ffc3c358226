use Rattle.edge_io.proofs.Writing.{writes_then, writes_last}
use Rattle.machine_runner.proofs.putting.put_era.Goals as goal

pub returns : goal.returns
returns g c =
    writes_then (writes_then c.labelled.ensures c.byte.ensures) (writes_last c.put_locked.ensures)
