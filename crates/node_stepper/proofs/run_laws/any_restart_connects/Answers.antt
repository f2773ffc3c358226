use Rattle.node_stepper.proofs.Restarts.{any_restart_connects}
use Rattle.node_stepper.proofs.run_laws.any_restart_connects.Goals as goal

pub returns : goal.returns
returns c = any_restart_connects
