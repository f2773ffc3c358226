use Rattle.halving_plan.proofs.bits.+bits_in.Given as goal

abbrev pub decreases-bits_in : goal.decreases-bits_in
decreases-bits_in l = l.group.now.faults
