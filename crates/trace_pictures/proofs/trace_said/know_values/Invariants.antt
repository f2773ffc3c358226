use Rattle.std.proofs.Common.{◌≡◌, ℕ, ◌+◌, ◌-◌, ◌<◌, ◌≤◌, drop, length, get_or}
use Rattle.trace_pictures.specs.declared.traces.Note.{Note}
use Rattle.trace_pictures.specs.TraceSaid.{KnowsValue, top_value}
use Rattle.trace_pictures.proofs.trace_said.know_values.Given as goal

abbrev pub invariant-loop-i : goal.invariant-loop-i
invariant-loop-i l = record {
  later : l.later ≡ top_value (drop (length l.notes - l.i) l.notes);
  known : (k : ℕ) (d : Note) → length l.notes ≤ k + l.i → k < length l.notes
      → KnowsValue l.notes k (get_or l.notes k d);
}
