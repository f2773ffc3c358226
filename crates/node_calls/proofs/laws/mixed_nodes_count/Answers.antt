use Rattle.node_calls.proofs.MixedNodes as law
use Rattle.node_calls.proofs.laws.mixed_nodes_count.Goals as goal

pub returns : goal.returns
returns c = law.mixed_nodes_count
