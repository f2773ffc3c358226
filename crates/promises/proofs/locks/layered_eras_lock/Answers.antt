use Rattle.promises.proofs.locks.layered_eras_lock.Goals as goal
use Rattle.promises.proofs.LockLaws as law

pub returns : goal.returns
returns c end = law.layered_eras_lock
