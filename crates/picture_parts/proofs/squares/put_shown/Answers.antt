use Rattle.edge_io.proofs.Writing.{writes_then}
use Rattle.picture_parts.proofs.squares.put_shown.Goals as goal

pub returns : goal.returns
returns g c =
    writes_then (writes_then c.put_hover_front.ensures c.put_face_word.ensures)
    (writes_then
    (writes_then c.put_rectangle.ensures
    (writes_then c.put_filling.ensures c.put_inscription.ensures))
    c.put_cell_close.ensures)
