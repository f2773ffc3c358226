use Rattle.halving_plan.proofs.fields.+base_in.Given as goal

abbrev pub decreases-base_in : goal.decreases-base_in
decreases-base_in l = l.group.now.faults
