use Rattle.layer_laws.proofs.laws.slots_agree_over.Goals as goal
use Rattle.layer_laws.proofs.CounterSlots as law

pub returns : goal.returns
returns c end counter layer = law.slots_agree_over layer _ _
