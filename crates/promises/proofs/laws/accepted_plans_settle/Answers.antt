use Rattle.promises.proofs.Settled.{accepted_settle}
use Rattle.promises.proofs.laws.accepted_plans_settle.Goals as goal

pub returns : goal.returns
returns c = accepted_settle c.accepted_stabilise.ensures
