use Rattle.edge_io.proofs.Writing.{writes_none}
use Rattle.picture_parts.proofs.squares.put_inscription.Goals as goal

pub returns-in-Faulty : goal.returns-in-Faulty
returns-in-Faulty g c = rw c.in-Faulty.is writes_none

pub returns-in-Nothing : goal.returns-in-Nothing
returns-in-Nothing g c = rw c.in-Nothing.is c.put_cross.ensures

pub returns-in-Value : goal.returns-in-Value
returns-in-Value g c =
    rw c.in-Value.is
    (rw (c.middle.ensures.value, c.spot_top.ensures.value) at c.put_number_at.ensures)
