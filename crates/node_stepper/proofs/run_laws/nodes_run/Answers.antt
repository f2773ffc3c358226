use Rattle.node_stepper.proofs.Runs as law
use Rattle.node_stepper.proofs.run_laws.nodes_run.Goals as goal

pub returns : goal.returns
returns c = law.nodes_run
