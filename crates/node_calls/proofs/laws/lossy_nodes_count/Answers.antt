use Rattle.node_calls.proofs.Counting as law
use Rattle.node_calls.proofs.laws.lossy_nodes_count.Goals as goal

pub returns : goal.returns
returns c = law.lossy_nodes_count
