use Rattle.promises.proofs.Complete as complete
use Rattle.promises.proofs.laws.undisturbed_is_defined.Goals as goal

pub returns : goal.returns
returns c = complete.undisturbed_is_defined
