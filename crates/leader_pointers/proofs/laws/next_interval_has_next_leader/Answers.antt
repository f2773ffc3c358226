use Rattle.leader_pointers.proofs.Intervals.{next_leader}
use Rattle.leader_pointers.proofs.laws.next_interval_has_next_leader.Goals as goal

pub returns : goal.returns
returns c = next_leader
