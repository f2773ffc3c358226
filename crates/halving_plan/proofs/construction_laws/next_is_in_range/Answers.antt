use Rattle.halving_plan.proofs.RunLaws as laws
use Rattle.halving_plan.proofs.construction_laws.next_is_in_range.Goals as goal

pub returns : goal.returns
returns c = laws.next_is_in_range
