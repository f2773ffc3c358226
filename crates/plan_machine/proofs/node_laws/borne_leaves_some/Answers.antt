use Rattle.plan_machine.proofs.Plans as law
use Rattle.plan_machine.proofs.node_laws.borne_leaves_some.Goals as goal

pub returns : goal.returns
returns c = law.borne_leaves_some
