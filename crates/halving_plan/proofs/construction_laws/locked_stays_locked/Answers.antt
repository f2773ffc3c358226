use Rattle.halving_plan.proofs.Settles as level
use Rattle.halving_plan.proofs.RunLaws as laws
use Rattle.halving_plan.proofs.construction_laws.locked_stays_locked.Goals as goal

pub returns : goal.returns
returns c = laws.locked_runs_count level.locked_stays_locked
