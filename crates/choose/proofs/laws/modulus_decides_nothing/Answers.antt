use Rattle.choose.proofs.Short.{modulus_decides_nothing}
use Rattle.choose.proofs.laws.modulus_decides_nothing.Goals as goal

pub returns : goal.returns
returns c = modulus_decides_nothing
