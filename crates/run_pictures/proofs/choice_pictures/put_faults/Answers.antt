use Rattle.edge_io.proofs.Writing.{writes_none}
use Rattle.run_pictures.proofs.choice_pictures.put_faults.Goals as goal

pub returns-in-None : goal.returns-in-None
returns-in-None g c = rw c.in-None.is writes_none
