use Rattle.node_stepper.proofs.Connected.{any_losses_connect}
use Rattle.node_stepper.proofs.run_laws.any_losses_connect.Goals as goal

pub returns : goal.returns
returns c = any_losses_connect
