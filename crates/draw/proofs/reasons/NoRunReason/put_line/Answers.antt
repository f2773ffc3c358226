use Rattle.draw.proofs.reasons.NoRunReason.put_line.Goals as goal

pub returns : goal.returns
returns g c = rw (← c.deref.ensures.value) c.put_pieces.ensures
