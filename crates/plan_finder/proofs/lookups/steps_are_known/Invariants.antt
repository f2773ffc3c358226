use Rattle.std.proofs.Common.{◌<◌, ℕ}
use Rattle.plan_finder.specs.Potentials.{StepsAreKnownBy}
use Rattle.plan_finder.proofs.lookups.steps_are_known.Given as goal

abbrev pub invariant-loop-k : goal.invariant-loop-k
invariant-loop-k l = (k : ℕ) → k < l.k → StepsAreKnownBy l.most l.pots l.pot k
