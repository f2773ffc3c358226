use Rattle.edge_io.proofs.Writing.{writes_then}
use Rattle.trace_pictures.proofs.trace_printing.put_heard.Goals as goal

pub returns : goal.returns
returns g c =
    writes_then c.put_basis.ensures
    (writes_then (rw c.turn_word.ensures at c.pieces.ensures) c.put_number_or_none.ensures)
