use Rattle.consensus_layer.proofs.laws.every_run_decides.Goals as goal
use Rattle.consensus_layer.proofs.Decisions as law

pub returns : goal.returns
returns c = law.every_run_decides
