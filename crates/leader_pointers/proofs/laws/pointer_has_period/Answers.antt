use Rattle.leader_pointers.proofs.Intervals.{has_period}
use Rattle.leader_pointers.proofs.laws.pointer_has_period.Goals as goal

pub returns : goal.returns
returns c = has_period
