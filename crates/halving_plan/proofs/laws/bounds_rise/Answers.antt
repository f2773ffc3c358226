use Rattle.halving_plan.proofs.Trees as trees
use Rattle.halving_plan.proofs.laws.bounds_rise.Goals as goal

pub returns : goal.returns
returns c = trees.bounds_rise
