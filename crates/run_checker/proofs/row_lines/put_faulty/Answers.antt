use Rattle.edge_io.proofs.Writing.{writes_then}
use Rattle.run_checker.proofs.row_lines.put_faulty.Goals as goal

pub returns : goal.returns
returns g c = writes_then c.text.ensures (writes_then c.put_ids.ensures c.text-2.ensures)
