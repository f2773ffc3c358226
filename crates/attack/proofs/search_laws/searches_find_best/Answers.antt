use Rattle.attack.proofs.search_laws.searches_find_best.Goals as goal
use Rattle.attack.proofs.BestOfTries as law

pub returns : goal.returns
returns c = law.searches_find_best
