use Rattle.node_stepper.proofs.Missed as law
use Rattle.node_stepper.proofs.run_laws.others_are_missed.Goals as goal

pub returns : goal.returns
returns c = law.others_are_missed
