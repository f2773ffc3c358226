use Rattle.std.proofs.Common.{◌≡◌, true, take, All}
use Rattle.run_pictures.specs.Choices.{is_plain}
use Rattle.run_pictures.proofs.choices.are_plain.Given as goal

abbrev pub invariant-loop-k : goal.invariant-loop-k
invariant-loop-k l = All (λ byte. is_plain byte ≡ true) (take l.k l.bytes)
