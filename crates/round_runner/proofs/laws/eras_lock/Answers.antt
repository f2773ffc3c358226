use Rattle.round_runner.proofs.EraRuns as laws
use Rattle.round_runner.proofs.laws.eras_lock.Goals as goal

pub returns : goal.returns
returns c = laws.eras_lock c.locks_at_bound.ensures
