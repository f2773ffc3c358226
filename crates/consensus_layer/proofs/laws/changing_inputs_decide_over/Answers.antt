use Rattle.consensus_layer.proofs.laws.changing_inputs_decide_over.Goals as goal
use Rattle.consensus_layer.proofs.ChangingInputs as law

pub returns : goal.returns
returns c end counter = law.changing_inputs_decide_over _ _
