use Rattle.edge_io.proofs.Writing.{writes_then}
use Rattle.trace_pictures.proofs.trace_printing.put_output.Goals as goal

pub returns : goal.returns
returns g c =
    writes_then c.text.ensures (writes_then c.put_number_or_none.ensures c.pieces.ensures)
