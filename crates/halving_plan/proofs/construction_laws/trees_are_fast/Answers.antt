use Rattle.halving_plan.proofs.RunLaws as laws
use Rattle.halving_plan.proofs.construction_laws.trees_are_fast.Goals as goal

pub returns : goal.returns
returns c = laws.trees_are_fast
