use Rattle.attack.proofs.search_laws.attacks_are_worked.Goals as goal
use Rattle.attack.proofs.AttacksWorked as law

pub returns : goal.returns
returns c = record { attacks = law.attacks_are_worked; tries = law.tries_are_worked }
