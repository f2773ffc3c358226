use Rattle.halving_plan.proofs.steps.+step_group.Given as goal

abbrev pub decreases-step_group : goal.decreases-step_group
decreases-step_group l = l.group.now.faults
