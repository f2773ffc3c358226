use Rattle.run_checker.proofs.TrueTexts as laws
use Rattle.run_checker.proofs.laws.true_texts_are_true.Goals as goal

pub returns : goal.returns
returns c =
    laws.true_texts_are_true c.texts_are_checked.ensures c.stretches_are_runs.ensures
    c.true_rows_count.ensures
