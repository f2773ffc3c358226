use Rattle.run_checker.proofs.RecordedWhole as recorded
use Rattle.run_checker.proofs.certificate_laws.records_are_true.Goals as goal

pub returns : goal.returns
returns c = recorded.records_are_true
