use Rattle.std.proofs.Common.{◌<◌, inr, refl}
use Rattle.node_stepper.proofs.CellByCell.{first_then}
use Rattle.node_stepper.proofs.PacketByPacket.{first_end, unchanged}
use Rattle.node_stepper.proofs.engine.NodeEngine.hear_first.Goals as goal

pub returns-in-Ok-true-clause-first : goal.returns-in-Ok-true-clause-first
returns-in-Ok-true-clause-first g c =
    let none = c.if-hear_held.ensures.none refl in
    let first = rw c.in-Ok-Some.field-0-is at c.in-Ok-Some.ensures.bytes in
    rw (← none.0, ← none.1)
    (first_then g.M.Machine.machine c.in-Ok-Some.high 0 c.hear_held.new.self c.hear_rest.new.self _
    _ _ first
    (rw c.in-Ok-true.field-0-test at c.in-Ok-true.ensures.cell))

pub returns-in-Ok-false-clause-first : goal.returns-in-Ok-false-clause-first
returns-in-Ok-false-clause-first g c =
    let none = c.if-hear_held.ensures.none refl in
    let some : 0 < (g.M.Machine.machine c.hear_held.new.self.counter).nodes =
    rw none.0 c.requires in
    let first = rw c.in-Ok-Some.field-0-is at c.in-Ok-Some.ensures.bytes in
    let h = rw c.in-Ok-false.field-0-test at c.in-Ok-false.ensures.cell in
    rw (← none.0, ← none.1)
    (first_end _ _ _ _ _ _ some first h.1 h.2, h.3, unchanged _ _ h.4)

pub returns-in-Err-hear_rest-clause-first : goal.returns-in-Err-hear_rest-clause-first
returns-in-Err-hear_rest-clause-first g c =
    let none = c.if-hear_held.ensures.none refl in
    let some : 0 < (g.M.Machine.machine c.hear_held.new.self.counter).nodes =
    rw none.0 c.requires in
    let first = rw c.in-Ok-Some.field-0-is at c.in-Ok-Some.ensures.bytes in
    let h = c.in-Err-hear_rest.ensures.cell in
    rw (← none.0, ← none.1)
    (inr (0, first_end _ _ _ _ _ _ some first h.1 h.2), unchanged _ _ h.3)
