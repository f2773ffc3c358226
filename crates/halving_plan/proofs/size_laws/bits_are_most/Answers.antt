use Rattle.halving_plan.proofs.Most.{bits_are_most}
use Rattle.halving_plan.proofs.size_laws.bits_are_most.Goals as goal

pub returns : goal.returns
returns c = bits_are_most
