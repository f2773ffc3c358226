use Rattle.std.proofs.Common.{◌≡◌}
use Rattle.attack.proofs.trying.first_lock.Given as goal

abbrev pub invariant-loop : goal.invariant-loop
invariant-loop g l = l.runner ≡ record l.fn.runner { at = l.counter }
