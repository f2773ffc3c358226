use Rattle.leader_pointers.proofs.Intervals.{keeps_pointer}
use Rattle.leader_pointers.proofs.laws.interval_keeps_pointer.Goals as goal

pub returns : goal.returns
returns c = keeps_pointer
