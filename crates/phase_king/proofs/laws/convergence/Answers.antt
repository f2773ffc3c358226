use Rattle.phase_king.proofs.laws.convergence.Goals as goal
use Rattle.phase_king.proofs.Rounds as rounds

pub returns : goal.returns
returns c = rounds.convergence
