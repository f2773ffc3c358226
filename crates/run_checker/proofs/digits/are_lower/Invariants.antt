use Rattle.std.proofs.Common.{◌≡◌, take}
use Rattle.std.specs.List.{list_all}
use Rattle.state_codec.specs.Texts.{is_lower_digit}
use Rattle.run_checker.proofs.digits.are_lower.Given as goal

abbrev pub invariant-loop-digit : goal.invariant-loop-digit
invariant-loop-digit l = l.all ≡ list_all is_lower_digit (take l.digit-index l.digits)
