use Rattle.edge_io.proofs.Writing.{writes_none}
use Rattle.trace_pictures.proofs.trace_printing.put_own_or_nothing.Goals as goal

pub returns-in-None : goal.returns-in-None
returns-in-None g c = rw c.in-None.is writes_none
