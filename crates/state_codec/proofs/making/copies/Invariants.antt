use Rattle.std.proofs.Common.{◌≡◌, take}
use Rattle.state_codec.proofs.making.copies.Given as goal

abbrev pub invariant-loop-i : goal.invariant-loop-i
invariant-loop-i l = l.made.items ≡ take l.i l.kinds
