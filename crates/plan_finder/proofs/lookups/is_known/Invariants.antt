use Rattle.std.proofs.Common.{◌<◌, ℕ, slice_index_or}
use Rattle.plan_finder.specs.declared.pots.Pot.{Pot}
use Rattle.plan_finder.specs.Potentials.{IsAtMost}
use Rattle.plan_finder.proofs.lookups.is_known.Given as goal

abbrev pub invariant-loop-pot : goal.invariant-loop-pot
invariant-loop-pot l =
    (i : ℕ) (d : Pot) → i < l.pot-index
    → ¬ IsAtMost l.nodes l.faults l.most_value (slice_index_or l.pots i d)
