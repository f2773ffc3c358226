use Rattle.picture_parts.proofs.squares.put_cross.Goals as goal

pub returns : goal.returns
returns g c = rw (c.middle.ensures.value, c.spot_top.ensures.value) at c.pieces.ensures
