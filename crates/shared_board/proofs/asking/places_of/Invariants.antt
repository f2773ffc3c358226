use Rattle.std.proofs.Common.{◌≡◌, map, take, Some}
use Rattle.counting.specs.Values.{count_of}
use Rattle.shared_board.proofs.asking.places_of.Given as goal

-- the votes so far
abbrev pub invariant-loop-other : goal.invariant-loop-other
invariant-loop-other l =
    l.places ≡ count_of (map Some (take l.other-index l.votes)) (Some l.vote)
