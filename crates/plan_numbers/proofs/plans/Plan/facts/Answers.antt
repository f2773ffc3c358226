use Rattle.plan_numbers.proofs.Accepted.{accepted_depth}
use Rattle.plan_numbers.proofs.plans.Plan.facts.Goals as goal

pub returns-clause-depth : goal.returns-clause-depth
returns-clause-depth c =
    rw (← c.self.view_is) (accepted_depth c.self.inside.base _ c.self.invariant.accepted.levels)
