use Rattle.std.proofs.Common.{◌≡◌, ℕ, ◌<◌, ◌≤◌, take}
use Rattle.std.specs.List.{count_by}
use Rattle.trace_pictures.specs.declared.traces.Note.{Note}
use Rattle.trace_pictures.specs.TraceLaid.{shows, IsLaidAt}
use Rattle.trace_pictures.proofs.trace_laid.outputs_laid.Given as goal

abbrev pub invariant-loop-k : goal.invariant-loop-k
invariant-loop-k l = record {
  shown : l.shown ≡ count_by shows (take l.k l.notes);
  few : l.shown ≤ l.k;
  laid : (j : ℕ) (d : Note) → j < l.k → IsLaidAt l.levels l.nodes l.ids l.notes j d;
}
