use Rattle.promises.proofs.Complete as complete
use Rattle.promises.proofs.laws.plain_is_defined.Goals as goal

pub returns : goal.returns
returns c = complete.plain_is_defined
