use Rattle.adversary_script.proofs.FittedSame.{fitted_is_same, copy_is_same}
use Rattle.adversary_script.proofs.laws.copies_are_said.Goals as goal

pub returns-clause-fitted : goal.returns-clause-fitted
returns-clause-fitted c = fitted_is_same

pub returns-clause-copied : goal.returns-clause-copied
returns-clause-copied c = copy_is_same
