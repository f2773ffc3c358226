use Rattle.halving_plan.proofs.fields.+modulus_in.Given as goal

abbrev pub decreases-modulus_in : goal.decreases-modulus_in
decreases-modulus_in l = l.group.now.faults
