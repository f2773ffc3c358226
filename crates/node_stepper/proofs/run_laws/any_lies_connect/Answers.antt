use Rattle.node_stepper.proofs.Connected as law
use Rattle.node_stepper.proofs.run_laws.any_lies_connect.Goals as goal

pub returns : goal.returns
returns c = law.any_lies_connect
