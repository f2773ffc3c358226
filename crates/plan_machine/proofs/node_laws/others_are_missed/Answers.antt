use Rattle.plan_machine.proofs.Missed as law
use Rattle.plan_machine.proofs.node_laws.others_are_missed.Goals as goal

pub returns : goal.returns
returns c = law.others_are_missed
