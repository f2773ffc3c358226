use Rattle.std.proofs.Common.{◌≡◌, ◌≤◌, length, All, vec_capacity}
use Rattle.shared_board.proofs.rooms.polls.Given as goal

-- so many so far, and there is room for the others
abbrev pub invariant-loop : goal.invariant-loop
invariant-loop l = (length l.polls.items ≡ l.counter)
    × All (λ t. l.capacity ≤ t.capacity) l.polls.items × (l.count ≤ vec_capacity l.polls)
