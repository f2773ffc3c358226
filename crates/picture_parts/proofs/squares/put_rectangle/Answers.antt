use Rattle.picture_parts.proofs.squares.put_rectangle.Goals as goal

pub returns : goal.returns
returns g c =
    rw (c.left.ensures.value, c.spot_top.ensures.value, c.width.ensures.value)
    at c.pieces.ensures
