use Rattle.edge_io.proofs.Writing.{writes_then}
use Rattle.trace_pictures.proofs.strips.put_unsound_in.Goals as goal

pub returns : goal.returns
returns g c =
    writes_then c.put_rectangle.ensures (writes_then c.text.ensures c.put_value.ensures)
