use Rattle.std.proofs.Common.{ℕ, ◌<◌, ◌≤◌, get_or, Some, None, IfSome}
use Rattle.counting.specs.Values.{count_of}
use Rattle.shared_board.proofs.gathering.known_lead.Given as goal

-- no vote that is known so far has more places than the most, and that is at most half
abbrev pub invariant-loop-i : goal.invariant-loop-i
invariant-loop-i l =
    ((k : ℕ) → k < l.i
    → IfSome (get_or l.votes k None) (λ vote. count_of l.votes (Some vote) ≤ l.most))
    × (l.most ≤ l.half)
