use Rattle.attack.proofs.search_laws.requests_are_worked.Goals as goal
use Rattle.attack.proofs.RequestsWorked as law

pub returns : goal.returns
returns c = law.requests_are_worked
