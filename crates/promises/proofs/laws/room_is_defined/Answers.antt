use Rattle.promises.proofs.Complete as complete
use Rattle.promises.proofs.laws.room_is_defined.Goals as goal

pub returns : goal.returns
returns c = complete.room_is_defined
