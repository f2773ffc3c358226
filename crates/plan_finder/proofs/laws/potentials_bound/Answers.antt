use Rattle.plan_finder.proofs.Potentials as potentials
use Rattle.plan_finder.proofs.laws.potentials_bound.Goals as goal

pub returns : goal.returns
returns c = potentials.potentials_bound
