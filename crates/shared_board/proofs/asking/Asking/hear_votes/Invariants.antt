use Rattle.std.proofs.Common.{◌≡◌, ℕ, ◌+◌, ◌*◌, ◌<◌, ◌≤◌, get_or}
use Rattle.shared_board.specs.Senders.{liars_in}
use Rattle.shared_board.specs.Votes.{block_vote}
use Rattle.shared_board.proofs.asking.Asking.hear_votes.Given as goal

-- the votes so far, and the liars of their blocks
abbrev pub invariant-loop-i : goal.invariant-loop-i
invariant-loop-i g l =
    let site = l.self.site.now in
    ((j : ℕ) → j < l.i → get_or l.heard j 0
    ≡ block_vote site.senders.now l.self.hearing.now.lies.now (get_or site.intervals.now j 0)
    site.leaders (site.first + j * site.size) site.size)
    × (l.steps ≤ l.initial.steps + liars_in site.senders.now site.first (l.i * site.size))
