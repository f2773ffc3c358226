use Rattle.std.proofs.Common.{ℕ, ◌<◌, ◌≤◌, ◌++◌, map, get_or, Some, None}
use Rattle.counting.specs.Values.{count_of}
use Rattle.construction.specs.Shown.{shown}
use Rattle.shared_board.proofs.laying.Lies.most_with.Given as goal

-- no number of the lies so far has more than half of the places
abbrev pub invariant-loop-lie : goal.invariant-loop-lie
invariant-loop-lie g l =
    let told = map (λ s. Some (g.R.Reading.reads l.reading (shown l.self.height s)))
    l.self.lies.now in
    (k : ℕ) → k < l.lie-index
    → count_of (l.poll.values ++ told) (get_or told k None) ≤ l.half
