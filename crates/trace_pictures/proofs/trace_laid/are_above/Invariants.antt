use Rattle.std.proofs.Common.{ℕ, ◌<◌, ◌≤◌, get_or}
use Rattle.trace_pictures.specs.declared.traces.KingPhase.{KingPhase}
use Rattle.trace_pictures.specs.TraceLaid.{AreApart}
use Rattle.trace_pictures.proofs.trace_laid.are_above.Given as goal

abbrev pub invariant-loop-i : goal.invariant-loop-i
invariant-loop-i l = (j : ℕ) (d : KingPhase) → l.from ≤ j → j < l.i
    → AreApart (get_or l.reigns j d) l.later
