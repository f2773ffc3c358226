use Rattle.edge_io.proofs.Writing.{writes_then}
use Rattle.plan_finder.proofs.writing.put_found.Goals as goal

pub returns : goal.returns
returns g c = writes_then c.put_plan.ensures (rw c.as_slice.ensures at c.put_pots.ensures)
