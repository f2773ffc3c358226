use Rattle.edge_io.proofs.Writing.{writes_then}
use Rattle.trace.proofs.counted.put_said.Goals as goal

pub returns : goal.returns
returns g c =
    writes_then c.labelled.ensures
    (writes_then (rw (c.as_bytes.ensures.value, c.backed_word.ensures) at c.text.ensures)
    (writes_then c.put_instruction.ensures (rw c.number_piece.ensures at c.pieces.ensures)))
