use Rattle.halving_plan.proofs.bounds.+depth_of.Given as goal

abbrev pub decreases-depth_of : goal.decreases-depth_of
decreases-depth_of l = l.faults
