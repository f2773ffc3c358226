use Rattle.choose.proofs.writing_both.put_halving_part.Goals as goal

pub returns : goal.returns
returns g c =
    rw (
      c.from.ensures,
      c.from-2.ensures,
      c.nodes.ensures,
      c.faults.ensures,
      c.modulus.ensures,
    ) at c.pieces.ensures
