use Rattle.node_stepper.proofs.Settled as law
use Rattle.node_stepper.proofs.run_laws.nodes_stay_locked.Goals as goal

pub returns : goal.returns
returns c = law.nodes_stay_locked
