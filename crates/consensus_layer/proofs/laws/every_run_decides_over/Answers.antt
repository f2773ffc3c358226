use Rattle.consensus_layer.proofs.laws.every_run_decides_over.Goals as goal
use Rattle.consensus_layer.proofs.Decisions as law

pub returns : goal.returns
returns c end counter = law.every_run_decides_over _ _
