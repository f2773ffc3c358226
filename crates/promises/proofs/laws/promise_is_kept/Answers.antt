use Rattle.promises.proofs.Promise.{promise_kept}
use Rattle.promises.proofs.laws.promise_is_kept.Goals as goal

pub returns : goal.returns
returns c = promise_kept c.plain_scripts_are_played.ensures c.texts_are_written.ensures
    c.each_is_of_one_era.ensures c.eras_are_runs.ensures c.eras_lock.ensures c.eras_count.ensures
    c.eras_stay_locked.ensures c.explained_eras_lock.ensures
    c.long_eras_are_explained.ensures c.found_is_first.ensures
