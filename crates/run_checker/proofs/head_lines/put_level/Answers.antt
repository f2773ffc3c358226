use Rattle.edge_io.proofs.Writing.{writes_then, writes_last}
use Rattle.run_checker.proofs.head_lines.put_level.Goals as goal

pub returns : goal.returns
returns g c = writes_then c.put_level_front.ensures (writes_last c.put_spares.ensures)
