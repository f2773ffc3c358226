use Rattle.trace.specs.Wants.{IsAt}
use Rattle.trace.proofs.tracing.play.Given as goal

abbrev pub invariant-loop : goal.invariant-loop
invariant-loop l = IsAt l.fn.runner l.counter l.runner
