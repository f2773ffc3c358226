use Rattle.halving_texts.proofs.writing.put_halving_text.Goals as goal

pub returns : goal.returns
returns g c =
    rw (
      c.from.ensures,
      c.from-2.ensures,
      c.nodes.ensures,
      c.faults.ensures,
      c.modulus.ensures,
    ) at c.pieces.ensures
