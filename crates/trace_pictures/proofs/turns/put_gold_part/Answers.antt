use Rattle.trace_pictures.proofs.turns.put_gold_part.Goals as goal

pub returns : goal.returns
returns g c =
    rw (c.left-x.ensures.value, c.spot_top-y.ensures.value, c.width.ensures.value)
    at c.pieces.ensures
