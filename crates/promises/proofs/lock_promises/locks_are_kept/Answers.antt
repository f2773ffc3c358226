use Rattle.promises.proofs.LockPromises.{locks_kept}
use Rattle.promises.proofs.lock_promises.locks_are_kept.Goals as goal

pub returns : goal.returns
returns c = locks_kept c.plain_eras_lock.ensures c.layered_eras_lock.ensures
    c.layered_eras_lock-2.ensures c.layered_eras_lock-3.ensures
