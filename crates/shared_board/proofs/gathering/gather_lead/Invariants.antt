use Rattle.std.proofs.Common.{◌≡◌, ℕ, ◌+◌, ◌*◌, ◌<◌, length, slice_index_or, None}
use Rattle.majority_votes.specs.Votes.{Votes}
use Rattle.shared_board.specs.Senders.{correct_in}
use Rattle.shared_board.specs.Votes.{IsVote, HasVotesIn}
use Rattle.shared_board.proofs.gathering.gather_lead.Given as goal

-- the blocks so far, and room in every poll
abbrev pub invariant-loop-i : goal.invariant-loop-i
invariant-loop-i g l =
    ((j : ℕ) (none : Votes) → j < l.i
    → IsVote l.site.senders.now (slice_index_or l.site.intervals.now j 0) l.site.leaders
    (l.site.first + j * l.site.size) l.site.size (slice_index_or l.votes j None)
    (slice_index_or l.pointers j none))
    × HasVotesIn (length l.site.intervals.now) l.site.size l.votes l.pointers
    × (l.steps ≡ l.initial.steps + length
    (correct_in l.site.senders.now l.site.first (l.i * l.site.size)))
