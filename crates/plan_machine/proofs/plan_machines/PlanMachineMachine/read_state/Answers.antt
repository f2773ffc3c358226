use Rattle.std.proofs.Common.{◌∙◌, sym}
use Rattle.plan_machine.proofs.Kept.{node_of_shape, moduli_are}
use Rattle.plan_machine.proofs.plan_machines.PlanMachineMachine.read_state.Goals as goal

pub read_state-requires-clause-node : goal.read_state-requires-clause-node
read_state-requires-clause-node c =
    node_of_shape _ _ c.self.invariant _ (rw (← c.self.view_is) at c.requires.node)

pub read_state-requires-clause-depth : goal.read_state-requires-clause-depth
read_state-requires-clause-depth c =
    (rw (← c.self.view_is) at c.requires.depth) ∙ sym (moduli_are _ _ c.self.invariant)
