use Rattle.std.proofs.Common.{refl}
use Rattle.node_stepper.proofs.CellByCell.{cell_fed}
use Rattle.node_stepper.proofs.engine.NodeEngine.hear_cell.Goals as goal

pub returns-clause-cell : goal.returns-clause-cell
returns-clause-cell g c =
    let none = c.if-hear_held.ensures.none refl in
    rw (← none.0, ← none.1)
    (cell_fed g.M.Machine.machine _ _ _ _ _ _ _ _
    (rw c.in-Ok-Some.field-0-is at c.in-Ok-Some.ensures.bytes)
    c.hear_rest.ensures.cell)
