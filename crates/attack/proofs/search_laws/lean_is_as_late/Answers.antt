use Rattle.attack.proofs.search_laws.lean_is_as_late.Goals as goal
use Rattle.attack.proofs.LeanBests as law

pub returns : goal.returns
returns c = law.lean_is_as_late
