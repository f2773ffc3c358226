use Rattle.choose.proofs.Both.{boosting_is_outdone}
use Rattle.choose.proofs.laws.boosting_is_outdone.Goals as goal

pub returns : goal.returns
returns c = boosting_is_outdone
