use Rattle.edge_io.proofs.Writing.{writes_then}
use Rattle.run_pictures.proofs.printing.put_end.Goals as goal

pub returns : goal.returns
returns g c = writes_then c.put_era.ensures c.put_locked.ensures
