use Rattle.halving_plan.proofs.bits.+bits_of.Given as goal

abbrev pub decreases-bits_of : goal.decreases-bits_of
decreases-bits_of l = l.group.now.faults
