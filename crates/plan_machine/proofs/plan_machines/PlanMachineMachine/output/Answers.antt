use Rattle.plan_machine.proofs.Kept.{front_range}
use Rattle.plan_machine.proofs.plan_machines.PlanMachineMachine.output.Goals as goal

pub output-requires-clause-range : goal.output-requires-clause-range
output-requires-clause-range c =
    front_range _ _ c.self.invariant _ (rw (← c.self.view_is) at c.requires.node) _
    (rw (← c.self.view_is) at c.requires.state)

pub output-requires-clause-deep : goal.output-requires-clause-deep
output-requires-clause-deep c =
    let is = rw (← c.self.view_is) at c.requires.state in
    is.deep
