use Rattle.node_stepper.proofs.Settled as law
use Rattle.node_stepper.proofs.run_laws.nodes_lock.Goals as goal

pub returns : goal.returns
returns c = law.nodes_lock
