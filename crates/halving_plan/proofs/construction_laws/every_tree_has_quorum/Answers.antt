use Rattle.halving_plan.proofs.RunLaws as laws
use Rattle.halving_plan.proofs.construction_laws.every_tree_has_quorum.Goals as goal

pub returns : goal.returns
returns c = laws.every_tree_has_quorum
