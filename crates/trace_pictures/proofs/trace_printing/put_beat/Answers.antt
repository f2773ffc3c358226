use Rattle.edge_io.proofs.Writing.{writes_then}
use Rattle.trace_pictures.proofs.trace_printing.put_beat.Goals as goal

pub returns : goal.returns
returns g c =
    writes_then c.text.ensures
    (writes_then (rw c.deref.ensures.value at c.put_votes.ensures) c.pieces.ensures)
