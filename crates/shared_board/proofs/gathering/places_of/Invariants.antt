use Rattle.std.proofs.Common.{◌≡◌, take}
use Rattle.counting.specs.Values.{count_of}
use Rattle.shared_board.proofs.gathering.places_of.Given as goal

-- the votes so far
abbrev pub invariant-loop-other : goal.invariant-loop-other
invariant-loop-other l = l.places ≡ count_of (take l.other-index l.votes) l.vote
