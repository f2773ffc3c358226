use Rattle.round_runner.proofs.EraRuns as laws
use Rattle.round_runner.proofs.laws.eras_stay_locked.Goals as goal

pub returns : goal.returns
returns c = laws.eras_stay_locked c.locked_runs_count.ensures
