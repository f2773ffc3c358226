use Rattle.promises.proofs.locks.plain_eras_lock.Goals as goal
use Rattle.promises.proofs.LockLaws as law

pub returns : goal.returns
returns c = law.plain_eras_lock c.eras_lock.ensures
