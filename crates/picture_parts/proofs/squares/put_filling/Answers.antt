use Rattle.picture_parts.proofs.squares.put_filling.Goals as goal

pub returns-in-Faulty : goal.returns-in-Faulty
returns-in-Faulty g c = rw c.in-Faulty.is c.text.ensures

pub returns-in-Nothing : goal.returns-in-Nothing
returns-in-Nothing g c = rw c.in-Nothing.is c.text-in-Nothing.ensures

pub returns-in-Value : goal.returns-in-Value
returns-in-Value g c =
    rw c.in-Value.is
    (rw (
      c.shade.ensures,
      c.shade-in-Value.ensures,
      c.shade-in-Value-2.ensures,
      c.lead_of-lead.ensures,
      c.configuration.ensures,
    ) at c.pieces.ensures)
