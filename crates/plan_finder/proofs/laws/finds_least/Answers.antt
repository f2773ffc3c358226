use Rattle.plan_finder.proofs.LeastFound as found
use Rattle.plan_finder.proofs.laws.finds_least.Goals as goal

pub returns : goal.returns
returns c = found.finds_least
