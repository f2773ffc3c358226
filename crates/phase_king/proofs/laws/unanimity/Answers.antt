use Rattle.phase_king.proofs.laws.unanimity.Goals as goal
use Rattle.phase_king.proofs.Rounds as rounds

pub returns : goal.returns
returns c = rounds.unanimity
