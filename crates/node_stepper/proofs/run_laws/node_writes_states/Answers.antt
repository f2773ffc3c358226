use Rattle.node_stepper.proofs.Written as law
use Rattle.node_stepper.proofs.run_laws.node_writes_states.Goals as goal

pub returns : goal.returns
returns c = law.node_writes_states
