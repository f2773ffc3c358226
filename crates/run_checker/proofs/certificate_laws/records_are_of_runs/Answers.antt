use Rattle.run_checker.proofs.certificate_laws.records_are_of_runs.Goals as goal
use Rattle.run_checker.proofs.RecordedRuns as law

pub returns : goal.returns
returns c = law.records_are_of_runs
