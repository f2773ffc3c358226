use Rattle.std.proofs.Common.{ℕ, ◌<◌, ◌≤◌, get_or}
use Rattle.trace_pictures.specs.declared.traces.Note.{Note}
use Rattle.trace_pictures.proofs.turns_said.columns_rise.Given as goal

abbrev pub invariant-loop-k : goal.invariant-loop-k
invariant-loop-k l = record {
  most : (i : ℕ) (d : Note) → i < l.k → (get_or l.notes i d).column ≤ l.last;
  rise : (i j : ℕ) (d : Note) → i ≤ j → j < l.k
      → (get_or l.notes i d).column ≤ (get_or l.notes j d).column;
}
