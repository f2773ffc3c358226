use Rattle.halving_plan.proofs.OneNext as laws
use Rattle.halving_plan.proofs.construction_laws.each_has_one_next.Goals as goal

pub returns : goal.returns
returns c = laws.each_has_one_next
