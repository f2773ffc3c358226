use Rattle.layer_laws.proofs.laws.runs_without_layer_over.Goals as goal
use Rattle.layer_laws.proofs.CounterSlots as law

pub returns : goal.returns
returns c end counter layer = law.runs_without_layer_over layer _ _
