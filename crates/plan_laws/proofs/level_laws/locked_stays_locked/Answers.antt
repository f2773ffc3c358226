use Rattle.plan_laws.proofs.Locked.{stays_locked}
use Rattle.plan_laws.proofs.level_laws.locked_stays_locked.Goals as goal

pub returns : goal.returns
returns c = stays_locked
