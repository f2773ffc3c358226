use Rattle.node_stepper.proofs.CellByCell.{rest_fed}
use Rattle.node_stepper.proofs.engine.NodeEngine.hear_rest.Goals as goal

pub returns-clause-cell : goal.returns-clause-cell
returns-clause-cell g c =
    rest_fed g.M.Machine.machine _ _ _ _ _ _ _ _ _
    (rw c.in-Ok-Some.field-0-is at c.in-Ok-Some.ensures.bytes)
    (rw (c.from.ensures, c.from-2.ensures) at c.hear_body.ensures.body)
