use Rattle.trace.proofs.LocksTold as law
use Rattle.trace.proofs.laws.locks_are_told.Goals as goal

pub returns : goal.returns
returns c = law.locks_are_told
