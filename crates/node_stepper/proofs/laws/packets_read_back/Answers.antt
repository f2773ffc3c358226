use Rattle.node_stepper.proofs.ReadBack.{packets_back}
use Rattle.node_stepper.proofs.laws.packets_read_back.Goals as goal

pub returns : goal.returns
returns c = packets_back
