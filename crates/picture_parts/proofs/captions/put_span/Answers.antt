use Rattle.picture_parts.proofs.captions.put_span.Goals as goal

pub returns : goal.returns
returns g c =
    rw (c.bottom.ensures.value, c.from.ensures, c.last_of.ensures) at c.pieces.ensures
