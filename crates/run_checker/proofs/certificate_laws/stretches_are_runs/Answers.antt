use Rattle.run_checker.proofs.StatedRuns as runs
use Rattle.run_checker.proofs.certificate_laws.stretches_are_runs.Goals as goal

pub returns : goal.returns
returns c = runs.stretches_are_runs
