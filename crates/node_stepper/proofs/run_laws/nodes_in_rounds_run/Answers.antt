use Rattle.node_stepper.proofs.Rounds.{nodes_in_rounds_run}
use Rattle.node_stepper.proofs.run_laws.nodes_in_rounds_run.Goals as goal

pub returns : goal.returns
returns c = nodes_in_rounds_run
