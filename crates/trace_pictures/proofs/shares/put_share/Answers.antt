use Rattle.trace_pictures.proofs.shares.put_share.Goals as goal

pub returns : goal.returns
returns g c =
    rw (c.left.ensures.value, c.spot_top.ensures.value, c.width.ensures.value, c.tint.ensures)
    at c.pieces.ensures
