use Rattle.halvinglab.proofs.WorkedValues as law
use Rattle.halvinglab.proofs.worked.worked_values.Goals as goal

pub returns : goal.returns
returns c = law.worked_values
