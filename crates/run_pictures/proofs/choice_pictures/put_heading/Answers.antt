use Rattle.edge_io.proofs.Writing.{writes_then}
use Rattle.run_pictures.proofs.choice_pictures.put_heading.Goals as goal

pub returns : goal.returns
returns g c = writes_then c.text.ensures (writes_then c.put_faults.ensures c.text-2.ensures)
