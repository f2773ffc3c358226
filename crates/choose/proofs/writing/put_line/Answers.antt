use Rattle.edge_io.proofs.Writing.{writes_then}
use Rattle.choose.proofs.writing.put_line.Goals as goal

pub returns : goal.returns
returns g c = writes_then c.put_numbers.ensures c.put_plan.ensures
