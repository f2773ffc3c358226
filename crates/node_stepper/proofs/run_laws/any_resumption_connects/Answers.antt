use Rattle.node_stepper.proofs.Restarts.{any_resumption_connects}
use Rattle.node_stepper.proofs.run_laws.any_resumption_connects.Goals as goal

pub returns : goal.returns
returns c = any_resumption_connects
