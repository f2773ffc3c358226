use Rattle.promises.proofs.Complete as complete
use Rattle.promises.proofs.laws.cuts_are_unseen.Goals as goal

pub returns : goal.returns
returns c = complete.cuts_are_unseen
