use Rattle.attack.proofs.search_laws.draws_are_worked.Goals as goal
use Rattle.attack.proofs.DrawsWorked as law

pub returns : goal.returns
returns c = law.draws_are_worked
