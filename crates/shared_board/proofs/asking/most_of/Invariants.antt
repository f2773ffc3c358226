use Rattle.std.proofs.Common.{ℕ, ◌<◌, ◌≤◌, map, get_or, Some}
use Rattle.counting.specs.Values.{count_of}
use Rattle.shared_board.proofs.asking.most_of.Given as goal

-- none of the votes so far has more than half of the places
abbrev pub invariant-loop-i : goal.invariant-loop-i
invariant-loop-i l =
    (k : ℕ) → k < l.i → count_of (map Some l.votes) (Some (get_or l.votes k 0)) ≤ l.half
