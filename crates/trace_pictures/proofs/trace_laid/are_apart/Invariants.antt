use Rattle.std.proofs.Common.{ℕ, ◌<◌, ◌≤◌, get_or}
use Rattle.trace_pictures.specs.declared.traces.KingPhase.{KingPhase}
use Rattle.trace_pictures.specs.TraceLaid.{AreApart}
use Rattle.trace_pictures.proofs.trace_laid.are_apart.Given as goal

abbrev pub invariant-loop-k : goal.invariant-loop-k
invariant-loop-k l = record {
  most : (j : ℕ) (d : KingPhase) → j < l.k → (get_or l.reigns j d).column ≤ l.column;
  begun : l.from ≤ l.k;
  early : (j : ℕ) (d : KingPhase) → j < l.from → (get_or l.reigns j d).column < l.column;
  apart : (i j : ℕ) (d : KingPhase) → i < j → j < l.k
      → AreApart (get_or l.reigns i d) (get_or l.reigns j d);
}
