use Rattle.plan_machine.proofs.Plans as law
use Rattle.plan_machine.proofs.node_laws.nodes_lock.Goals as goal

pub returns : goal.returns
returns c = law.nodes_lock
