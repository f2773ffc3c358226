use Rattle.node_calls.proofs.Counting as law
use Rattle.node_calls.proofs.laws.nodes_count.Goals as goal

pub returns : goal.returns
returns c = law.nodes_count
