use Rattle.plan_machine.proofs.Kept.{in_range, deep_enough}
use Rattle.plan_machine.proofs.plan_machines.PlanMachineMachine.advance.Goals as goal

pub advance-requires-clause-range : goal.advance-requires-clause-range
advance-requires-clause-range c =
    in_range _ _ c.self.invariant _ (rw (← c.self.view_is) at c.requires.heard)

pub advance-requires-clause-deep : goal.advance-requires-clause-deep
advance-requires-clause-deep c =
    deep_enough _ _ c.self.invariant _ (rw (← c.self.view_is) at c.requires.heard)
