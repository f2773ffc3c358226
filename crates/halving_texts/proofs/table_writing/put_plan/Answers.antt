use Rattle.halving_texts.proofs.table_writing.put_plan.Goals as goal

pub returns : goal.returns
returns g c =
    rw (
      c.from.ensures,
      c.from-2.ensures,
      c.nodes.ensures,
      c.faults.ensures,
      c.modulus.ensures,
    ) at c.pieces.ensures
