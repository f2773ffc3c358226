use Rattle.layer_runner.proofs.laws.eras_count.Goals as goal
use Rattle.layer_runner.proofs.EraScenes as law

pub returns : goal.returns
returns c end = law.eras_count
