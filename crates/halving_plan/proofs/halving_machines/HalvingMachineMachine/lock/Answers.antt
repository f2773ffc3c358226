use Rattle.halving_plan.proofs.Kept.{lock_of_none, lock_of_some}
use Rattle.halving_plan.proofs.halving_machines.HalvingMachineMachine.lock.Goals as goal

pub returns-then-faults-eq0 : goal.returns-then-faults-eq0
returns-then-faults-eq0 c =
    rw (← c.self.view_is) (lock_of_none _ _ (rw c.faults.ensures at c.if-faults-eq0.true))

pub returns-else-faults-eq0 : goal.returns-else-faults-eq0
returns-else-faults-eq0 c =
    rw (← c.self.view_is) (lock_of_some _ _ (rw c.faults.ensures at c.if-faults-eq0.false))
