use Rattle.leader_pointers.proofs.Intervals.{unseen}
use Rattle.leader_pointers.proofs.laws.modulus_is_unseen.Goals as goal

pub returns : goal.returns
returns c = unseen
