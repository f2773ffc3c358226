use Rattle.std.proofs.Common.{◌≡◌, true, take}
use Rattle.run_checker.proofs.pairs.begins_with.Given as goal

abbrev pub invariant-loop-i : goal.invariant-loop-i
invariant-loop-i l = l.same ≡ true → take l.i l.line ≡ take l.i l.front
