use Rattle.plan_machine.proofs.Plans as law
use Rattle.plan_machine.proofs.node_laws.heard_nodes_stay_locked.Goals as goal

pub returns : goal.returns
returns c = law.heard_nodes_stay_locked
