use Rattle.promises.proofs.WorkedValues as law
use Rattle.promises.proofs.worked.worked_answers.Goals as goal

pub returns : goal.returns
returns c = law.worked_answers
