use Rattle.std.proofs.Common.{◌≡◌}
use Rattle.machine_runner.proofs.leading.play_to.Given as goal

abbrev pub invariant-loop : goal.invariant-loop
invariant-loop g l = l.runner ≡ record l.fn.runner { at = l.counter }
