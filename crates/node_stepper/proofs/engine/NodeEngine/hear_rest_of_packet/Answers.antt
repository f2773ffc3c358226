use Rattle.std.proofs.Common.{ℕ, ◌≡◌, ◌<◌, ap, arith, sym, ◌∙◌}
use Rattle.node_stepper.proofs.PacketByPacket.{cells_more}
use Rattle.node_stepper.proofs.engine.NodeEngine.hear_rest_of_packet.Goals as goal

pub returns-in-Ok-Whole-clause-packet : goal.returns-in-Ok-Whole-clause-packet
returns-in-Ok-Whole-clause-packet g c before start given =
    let none : c.args.heard ≡ 0 = omega (arith, c.if-heard-gt0.false) in
    let first = rw c.in-Ok-Whole.field-0-is at c.in-Ok-Whole.ensures.first in
    let nodes = ap (λ t. (g.M.Machine.machine t).nodes) given.heard.same.counter in
    let some : 0 < (g.M.Machine.machine before.counter).nodes =
    omega (arith, nodes, c.requires) in
    c.hear_cells_from-in-Ok-Whole.ensures.packet before start
    (cells_more g.M.Machine.machine _ _ _ _ _ _ 0 some (rw none at given) first)
