use Rattle.halving_plan.proofs.Settles as level
use Rattle.halving_plan.proofs.RunLaws as laws
use Rattle.halving_plan.proofs.construction_laws.every_tree_settles.Goals as goal

pub returns : goal.returns
returns c = laws.every_tree_settles level.one_half_is_sound level.halves_settle
