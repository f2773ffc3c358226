use Rattle.consensus_layer.proofs.laws.inputs_fit_over.Goals as goal
use Rattle.consensus_layer.proofs.FitInputs as law

pub returns : goal.returns
returns c = law.inputs_fit_over
