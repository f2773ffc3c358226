use Rattle.halving_texts.proofs.node_refusals.put_refusal.Goals as goal

pub returns : goal.returns
returns g c = rw (c.as_bytes.ensures.value, c.word.ensures) at c.put_pieces.ensures
