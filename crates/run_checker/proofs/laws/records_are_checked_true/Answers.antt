use Rattle.run_checker.proofs.TrueTexts as laws
use Rattle.run_checker.proofs.laws.records_are_checked_true.Goals as goal

pub returns : goal.returns
returns c =
    laws.records_are_checked_true c.certificates_are_checked.ensures c.records_are_true.ensures
