use Rattle.leader_pointers.proofs.Windows.{meet}
use Rattle.leader_pointers.proofs.laws.blocks_meet_at_each_leader.Goals as goal

pub returns : goal.returns
returns c = meet
