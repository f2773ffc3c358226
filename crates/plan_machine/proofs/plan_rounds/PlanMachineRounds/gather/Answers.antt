use Rattle.plan_machine.proofs.Kept.{in_range}
use Rattle.plan_machine.proofs.plan_rounds.PlanMachineRounds.gather.Goals as goal

pub gather-requires-clause-range : goal.gather-requires-clause-range
gather-requires-clause-range g c =
    in_range _ _ c.self.invariant _ (rw (← c.self.view_is) at c.requires.config)
