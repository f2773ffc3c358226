use Rattle.std.proofs.Common.{◌≡◌, ℕ, ◌<◌, length, get_or, false}
use Rattle.trace_pictures.specs.declared.traces.Note.{Note}
use Rattle.trace_pictures.specs.TraceSaid.{hears, is_other}
use Rattle.trace_pictures.proofs.turns_said.is_heard_from.Given as goal

abbrev pub invariant-loop-k : goal.invariant-loop-k
invariant-loop-k l = (j : ℕ) (d : Note) → j < length l.notes → j < l.k
    → is_other (hears l.reign (get_or l.notes j d)) ≡ false
