use Rattle.node_calls.proofs.Lossy.{losses_are_told}
use Rattle.node_calls.proofs.laws.any_losses_are_told.Goals as goal

pub returns : goal.returns
returns c = losses_are_told
