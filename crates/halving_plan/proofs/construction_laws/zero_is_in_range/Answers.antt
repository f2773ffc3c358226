use Rattle.halving_plan.proofs.RunLaws as laws
use Rattle.halving_plan.proofs.construction_laws.zero_is_in_range.Goals as goal

pub returns : goal.returns
returns c = laws.zero_is_in_range
