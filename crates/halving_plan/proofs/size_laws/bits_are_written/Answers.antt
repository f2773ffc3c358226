use Rattle.halving_plan.proofs.WrittenBits.{bits_are_written}
use Rattle.halving_plan.proofs.size_laws.bits_are_written.Goals as goal

pub returns : goal.returns
returns c = bits_are_written
