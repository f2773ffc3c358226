use Rattle.node_stepper.proofs.Heard as law
use Rattle.node_stepper.proofs.run_laws.heard_nodes_stay_locked.Goals as goal

pub returns : goal.returns
returns c = law.heard_nodes_stay_locked
