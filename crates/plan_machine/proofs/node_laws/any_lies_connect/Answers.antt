use Rattle.plan_machine.proofs.Plans as law
use Rattle.plan_machine.proofs.node_laws.any_lies_connect.Goals as goal

pub returns : goal.returns
returns c = law.any_lies_connect
