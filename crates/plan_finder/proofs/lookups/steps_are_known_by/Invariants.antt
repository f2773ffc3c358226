use Rattle.std.proofs.Common.{◌<◌, ℕ}
use Rattle.plan_finder.specs.Potentials.{StepIsKnown}
use Rattle.plan_finder.proofs.lookups.steps_are_known_by.Given as goal

abbrev pub invariant-loop-g : goal.invariant-loop-g
invariant-loop-g l = (g : ℕ) → g < l.g → StepIsKnown l.most l.pots l.pot l.k g
