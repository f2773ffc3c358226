use Rattle.std.specs.Prelude.{◌≡◌}
use Rattle.trace.specs.HalvingDesks.{runner_at}
use Rattle.trace.proofs.halving_tracing.play.Given as goal

abbrev pub invariant-loop : goal.invariant-loop
invariant-loop l = l.runner ≡ runner_at l.fn.runner l.counter
