use Rattle.promises.proofs.CheckLaws as laws
use Rattle.promises.proofs.certificate_laws.check_is_exact.Goals as goal

pub returns : goal.returns
returns c = laws.check_is_exact c.limits_matter_beyond.ensures c.texts_are_checked.ensures
    c.short_texts_are_checked.ensures c.stretches_are_runs.ensures c.true_rows_count.ensures
    c.true_locks_are_first.ensures
