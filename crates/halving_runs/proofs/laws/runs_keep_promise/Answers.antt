use Rattle.halving_runs.proofs.Kept.{run_keeps, runs_keep}
use Rattle.halving_runs.proofs.Holds.{slots_keep}
use Rattle.halving_runs.proofs.LayerKept.{layers_keep}
use Rattle.halving_runs.proofs.laws.runs_keep_promise.Goals as goal

pub returns-clause-runs : goal.returns-clause-runs
returns-clause-runs c =
    runs_keep c.eras_are_runs.ensures c.eras_count.ensures c.eras_lock.ensures
    c.eras_stay_locked.ensures c.firsts_are_locked.ensures c.scripts_are_played.ensures

pub returns-clause-slots : goal.returns-clause-slots
returns-clause-slots c =
    slots_keep c.hold_words.ensures.exact c.one_holder.ensures.holds c.one_holder.ensures.is_one
    c.at_most_one_in_a_line.ensures
    (run_keeps c.eras_are_runs.ensures c.eras_count.ensures c.eras_lock.ensures
    c.eras_stay_locked.ensures c.firsts_are_locked.ensures c.scripts_are_played.ensures)

pub returns-clause-layers : goal.returns-clause-layers
returns-clause-layers c = layers_keep c.firsts_are_locked.ensures
