use Rattle.picture_parts.proofs.squares.put_cell_close.Goals as goal

pub returns-in-true : goal.returns-in-true
returns-in-true g c =
    rw c.in-true.is
    (rw (c.left.ensures.value, c.spot_top.ensures.value) at c.pieces.ensures)

pub returns-in-false : goal.returns-in-false
returns-in-false g c = rw c.in-false.is c.text.ensures
