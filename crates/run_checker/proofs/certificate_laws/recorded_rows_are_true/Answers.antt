use Rattle.run_checker.proofs.RecordedTrue as recorded
use Rattle.run_checker.proofs.certificate_laws.recorded_rows_are_true.Goals as goal

pub returns : goal.returns
returns c = recorded.no_difference
