use Rattle.layer_runner.proofs.laws.eras_stay_locked.Goals as goal
use Rattle.layer_runner.proofs.SceneLocks as law

pub returns : goal.returns
returns c end = law.eras_stay_locked
