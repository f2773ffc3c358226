use Rattle.edge_io.proofs.Writing.{writes_then}
use Rattle.trace_pictures.proofs.strips.put_register_at.Goals as goal

pub returns : goal.returns
returns g c =
    writes_then
    (writes_then c.put_hover_front.ensures
    (writes_then c.text.ensures (writes_then c.put_register.ensures c.text-2.ensures)))
    (writes_then c.put_cell_in.ensures c.text-3.ensures)
