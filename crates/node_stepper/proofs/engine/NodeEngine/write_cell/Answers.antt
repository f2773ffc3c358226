use Rattle.std.proofs.Common.{◌∙◌, sym, ap, arith}
use Rattle.node_stepper.specs.Nodes.{state_cell}
use Rattle.node_stepper.proofs.Configurations.{state_at}
use Rattle.node_stepper.proofs.CellByCell.{cell_front, written_size}
use Rattle.node_stepper.proofs.engine.NodeEngine.write_cell.Goals as goal

pub bytes_of-bytes-requires : goal.bytes_of-bytes-requires
bytes_of-bytes-requires g c = c.self.invariant.node

pub write_state-requires-clause-node : goal.write_state-requires-clause-node
write_state-requires-clause-node g c = c.self.invariant.node

pub write_state-requires-clause-state : goal.write_state-requires-clause-state
write_state-requires-clause-state g c =
    state_at _ _ _ _ _ _ c.self.invariant _ c.self.invariant.node _
    (rw (← c.self.view_is) at c.state.ensures.value)

pub returns-clause-cell : goal.returns-clause-cell
returns-clause-cell g c =
    let bytes = c.bytes_of-bytes.ensures in
    let m = g.M.Machine.machine c.self.inside.machine in
    let written_at = cell_front c.bytes_of-bytes.result c.args.out.now _ c.write_state.new.out
    (omega (arith, bytes.most)) c.write_state.ensures (written_size _ _ ∙ sym bytes.value) in
    rw (← c.self.view_is) (written_at
    ∙ ap (state_cell m c.self.inside.id) (rw (← c.self.view_is) at c.state.ensures.value))
