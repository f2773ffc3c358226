use Rattle.plan_machine.proofs.Kept.{node_of_shape}
use Rattle.plan_machine.proofs.plan_machines.PlanMachineMachine.write_state.Goals as goal

pub write_state-requires-clause-node : goal.write_state-requires-clause-node
write_state-requires-clause-node c =
    node_of_shape _ _ c.self.invariant _ (rw (← c.self.view_is) at c.requires.node)
