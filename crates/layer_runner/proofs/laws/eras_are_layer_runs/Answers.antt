use Rattle.layer_runner.proofs.laws.eras_are_layer_runs.Goals as goal
use Rattle.layer_runner.proofs.EraScenes as law

pub returns : goal.returns
returns c end = law.eras_are_layer_runs
