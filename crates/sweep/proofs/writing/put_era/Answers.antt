use Rattle.edge_io.proofs.Writing.{writes_then}
use Rattle.sweep.proofs.writing.put_era.Goals as goal

pub returns : goal.returns
returns g c =
    writes_then c.put_locked.ensures
    (rw (c.first.ensures, c.unlocked.ensures) at c.put_line.ensures)
