use Rattle.halving_plan.proofs.Settles as settles
use Rattle.halving_plan.proofs.level_laws.locked_stays_locked.Goals as goal

pub returns : goal.returns
returns c = settles.locked_stays_locked
