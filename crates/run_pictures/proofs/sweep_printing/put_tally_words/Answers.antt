use Rattle.edge_io.proofs.Writing.{writes_then}
use Rattle.run_pictures.proofs.sweep_printing.put_tally_words.Goals as goal

pub returns : goal.returns
returns g c =
    writes_then c.put_era.ensures
    (writes_then c.put_locked.ensures (rw c.from.ensures at c.pieces.ensures))
