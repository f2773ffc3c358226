use Rattle.plan_machine.proofs.Kept.{lock_is}
use Rattle.plan_machine.proofs.plan_machines.PlanMachineMachine.lock.Goals as goal

pub returns : goal.returns
returns c =
    rw (← c.self.view_is)
    (lock_is _ _ (rw c.depth.ensures at c.checked_sub.ensures))
