use Rattle.std.proofs.Common.{◌≡◌}
use Rattle.attack.specs.FaultyIds.{left_over}
use Rattle.attack.proofs.faulty_ids.take_away.Given as goal

abbrev pub invariant-loop-i : goal.invariant-loop-i
invariant-loop-i l = l.ids.items ≡ left_over l.lot.seed l.fn.ids.items l.i
