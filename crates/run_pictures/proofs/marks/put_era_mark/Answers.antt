use Rattle.edge_io.proofs.Writing.{writes_none}
use Rattle.run_pictures.proofs.marks.put_era_mark.Goals as goal

pub returns-in-Some : goal.returns-in-Some
returns-in-Some g c = rw c.in-Some.is (rw c.from.ensures at c.put_mark_row.ensures)

pub returns-in-None : goal.returns-in-None
returns-in-None g c = rw c.in-None.is writes_none
