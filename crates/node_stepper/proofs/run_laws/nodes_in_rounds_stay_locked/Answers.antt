use Rattle.node_stepper.proofs.Rounds.{nodes_in_rounds_stay_locked}
use Rattle.node_stepper.proofs.run_laws.nodes_in_rounds_stay_locked.Goals as goal

pub returns : goal.returns
returns c = nodes_in_rounds_stay_locked
