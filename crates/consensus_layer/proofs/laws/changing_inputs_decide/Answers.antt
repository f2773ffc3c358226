use Rattle.consensus_layer.proofs.ChangingInputs as law
use Rattle.consensus_layer.proofs.laws.changing_inputs_decide.Goals as goal

pub returns : goal.returns
returns c = law.changing_inputs_decide
