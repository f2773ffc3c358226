use Rattle.halving_plan.proofs.Settles as level
use Rattle.halving_plan.proofs.RunLaws as laws
use Rattle.halving_plan.proofs.construction_laws.locked_at_the_bound.Goals as goal

pub returns : goal.returns
returns c = laws.locks_at_bound level.one_half_is_sound level.halves_settle
