use Rattle.layer_runner.proofs.laws.states_fit.Goals as goal
use Rattle.layer_runner.proofs.StatesFit as law

pub returns : goal.returns
returns c end = law.states_fit
