use Rattle.run_explanations.proofs.FoundIsFirst as law
use Rattle.run_explanations.proofs.laws.found_is_first.Goals as goal

pub returns : goal.returns
returns c = law.found_is_first
