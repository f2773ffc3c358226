use Rattle.plan_machine.proofs.Plans as law
use Rattle.plan_machine.proofs.node_laws.nodes_stay_locked.Goals as goal

pub returns : goal.returns
returns c = law.nodes_stay_locked
