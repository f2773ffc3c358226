use Rattle.halving_plan.proofs.Settles as settles
use Rattle.halving_plan.proofs.level_laws.halves_settle.Goals as goal

pub returns : goal.returns
returns c = settles.halves_settle
