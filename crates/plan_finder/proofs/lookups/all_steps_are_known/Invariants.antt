use Rattle.std.proofs.Common.{◌<◌, ℕ, slice_index_or}
use Rattle.plan_finder.specs.declared.pots.Pot.{Pot}
use Rattle.plan_finder.specs.Potentials.{StepsAreKnown}
use Rattle.plan_finder.proofs.lookups.all_steps_are_known.Given as goal

abbrev pub invariant-loop-pot : goal.invariant-loop-pot
invariant-loop-pot l =
    (i : ℕ) (d : Pot) → i < l.pot-index → StepsAreKnown l.most l.pots (slice_index_or l.pots i d)
