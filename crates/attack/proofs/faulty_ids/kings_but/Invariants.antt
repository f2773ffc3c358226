use Rattle.std.proofs.Common.{◌≡◌, map}
use Rattle.std.specs.List.{range_with_len}
use Rattle.attack.specs.FaultyIds.{king_at, place_past}
use Rattle.attack.proofs.faulty_ids.kings_but.Given as goal

abbrev pub invariant-loop-i : goal.invariant-loop-i
invariant-loop-i l =
    l.ids.items ≡ map (λ i. king_at l.left (place_past l.without i)) (range_with_len 0 l.i)
