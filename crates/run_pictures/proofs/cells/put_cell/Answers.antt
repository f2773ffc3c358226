use Rattle.edge_io.proofs.Writing.{writes_then}
use Rattle.run_pictures.proofs.cells.put_cell.Goals as goal

pub returns : goal.returns
returns g c =
    let top = c.line_top.ensures.value in
    let node = c.from-node.ensures in
    writes_then c.put_cell_head.ensures
    (writes_then (rw (top, node) at c.put_node_label.ensures)
    (rw (top, node, c.face_of.ensures) at c.put_shown.ensures))
