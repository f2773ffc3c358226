use Rattle.std.proofs.Common.{◌≡◌, ◌<◌, ◌∙◌, ap, arith, inl}
use Rattle.edge_io.proofs.Writing.{writes_none}
use Rattle.edge_io.specs.declared.read.ReadFault.{ReadFault}
use Rattle.node_stepper.specs.declared.faults.NodeFault.{NodeFault}
use Rattle.node_stepper.proofs.PacketByPacket.{cells_stop, heard_so}
use Rattle.node_stepper.proofs.engine.NodeEngine.hear_packet.Goals as goal

pub returns-then-heard-nodes-clause-passes_on : goal.returns-then-heard-nodes-clause-passes_on
returns-then-heard-nodes-clause-passes_on g c =
    (writes_none, inl c.hear_held_cells-heard.ensures.source)

pub returns-in-Err-clause-packet : goal.returns-in-Err-clause-packet
returns-in-Err-clause-packet g c =
    let cells = c.hear_held_cells-heard.ensures.cells in
    let nodes = c.nodes.ensures.value
    ∙ ap (λ t. (g.M.Machine.machine t).nodes) cells.heard.same.counter in
    let less : c.hear_held_cells-heard.result
    < (g.M.Machine.machine c.args.self.now.counter).nodes =
    omega (arith, cells.short, nodes, c.if-heard-nodes.false) in
    cells_stop g.M.Machine.machine _ _ _ _ _ less cells

pub returns-in-Ok-hear_rest_of_packet-clause-packet :
    goal.returns-in-Ok-hear_rest_of_packet-clause-packet
returns-in-Ok-hear_rest_of_packet-clause-packet g c =
    heard_so g.M.Machine.machine ReadFault NodeFault _ _ _ _ _
    (c.in-Ok-hear_rest_of_packet.ensures.packet _ _ c.hear_held_cells-heard.ensures.cells)

pub returns-in-Err-hear_rest_of_packet-clause-packet :
    goal.returns-in-Err-hear_rest_of_packet-clause-packet
returns-in-Err-hear_rest_of_packet-clause-packet g c =
    c.in-Err-hear_rest_of_packet.ensures.packet _ _ c.hear_held_cells-heard.ensures.cells
