use Rattle.layer_runner.proofs.line_laws.slots_count_over.Goals as goal
use Rattle.layer_runner.proofs.CountedSlots as law

pub returns : goal.returns
returns c end counter layer = law.slots_count_over layer _ _
