use Rattle.edge_io.proofs.Writing.{writes_then}
use Rattle.run_checker.proofs.row_lines.put_era.Goals as goal

pub returns : goal.returns
returns g c = writes_then c.pieces.ensures (writes_then c.put_ids.ensures c.text.ensures)
