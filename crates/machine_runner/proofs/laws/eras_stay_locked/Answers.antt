use Rattle.machine_runner.proofs.EraRuns as law
use Rattle.machine_runner.proofs.laws.eras_stay_locked.Goals as goal

pub returns : goal.returns
returns c = law.eras_stay_locked
