use Rattle.choose.proofs.ChoicesWorked.{choices_are_worked}
use Rattle.choose.proofs.laws.choices_are_worked.Goals as goal

pub returns : goal.returns
returns c = choices_are_worked
