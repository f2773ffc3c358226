use Rattle.edge_io.proofs.Writing.{writes_then}
use Rattle.trace_pictures.proofs.strips.put_note_picture.Goals as goal

pub returns : goal.returns
returns g c =
    writes_then c.put_note_head.ensures
    (writes_then c.put_node_label.ensures c.put_seen_cell.ensures)
