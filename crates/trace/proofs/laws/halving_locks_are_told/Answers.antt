use Rattle.trace.proofs.HalvingLocksTold as law
use Rattle.trace.proofs.laws.halving_locks_are_told.Goals as goal

pub returns : goal.returns
returns c = law.halving_locks_are_told
