use Rattle.node_stepper.proofs.Correct as law
use Rattle.node_stepper.proofs.run_laws.borne_leaves_some.Goals as goal

pub returns : goal.returns
returns c = law.some_left
