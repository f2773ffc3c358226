use Rattle.plan_machine.proofs.Kept.{node_of_shape}
use Rattle.plan_machine.proofs.plan_machines.PlanMachineMachine.bytes_of.Goals as goal

pub bytes_of-requires : goal.bytes_of-requires
bytes_of-requires c = node_of_shape _ _ c.self.invariant _ (rw (← c.self.view_is) at c.requires)
