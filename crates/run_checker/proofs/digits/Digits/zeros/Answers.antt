use Rattle.std.proofs.Common.{◌*◌, refl, arith}
use Rattle.std.proofs.lemmas.List.{take-replicate}
use Rattle.state_codec.specs.Texts.{is_lower_digit}
use Rattle.run_checker.proofs.Decoded.{front_lower}
use Rattle.run_checker.proofs.digits.Digits.zeros.Goals as goal

pub invariant_of-result : goal.invariant_of-result
invariant_of-result c = (c.requires, front_lower is_lower_digit (2 * c.args.bytes) _ refl)

-- the first ones of all the digits that there is room for
pub returns-clause-value : goal.returns-clause-value
returns-clause-value c = take-replicate (2 * c.args.bytes) 64 48 (omega (arith, c.requires))
