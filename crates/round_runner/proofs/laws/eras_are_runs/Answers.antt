use Rattle.round_runner.proofs.EraRuns as laws
use Rattle.round_runner.proofs.laws.eras_are_runs.Goals as goal

pub returns : goal.returns
returns c = laws.eras_are_runs
