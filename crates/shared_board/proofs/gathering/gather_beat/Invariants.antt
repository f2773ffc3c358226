use Rattle.std.proofs.Common.{◌≡◌, ℕ, ◌+◌, ◌*◌, ◌<◌, ◌≤◌, length, slice_index_or}
use Rattle.majority_votes.specs.Votes.{Votes}
use Rattle.shared_board.specs.Senders.{correct_in, parts_of}
use Rattle.shared_board.specs.Votes.{HasRoomIn}
use Rattle.shared_board.proofs.gathering.gather_beat.Given as goal

-- the leaders so far, and room in every poll
abbrev pub invariant-loop-b : goal.invariant-loop-b
invariant-loop-b g l =
    ((j : ℕ) (none : Votes) → j < l.b
    → (slice_index_or l.parts j none).values
    ≡ parts_of l.site.senders.now l.site.beat (l.site.first + j * l.site.size) l.site.size)
    × HasRoomIn l.site.leaders l.site.size l.parts
    × (l.steps ≤ l.initial.steps + length
    (correct_in l.site.senders.now l.site.first (l.b * l.site.size)))
