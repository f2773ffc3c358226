-- Sets of faulty nodes that are drawn: rising ids, so many of so many nodes.
use Rattle.std.specs.Prelude.{ℕ, zero, suc, ◌+◌, ◌*◌, ◌==◌, nat_lt, if◌then◌else◌, not}
use Rattle.std.specs.Prelude.{Bool, List, length, map, slice_set}
use Rattle.std.specs.List.{list_any, filter, range_with_len, remove}
use Rattle.attack.specs.Draws.{below}

-- whether an id is among these
abbrev pub is_among : List ℕ → ℕ → Bool
is_among ids id = list_any (λ other. other == id) ids

-- the other ids of so many nodes, rising
abbrev pub others : (nodes : ℕ) → List ℕ → List ℕ
others nodes ids = filter (λ id. not (is_among ids id)) (range_with_len 0 nodes)

-- what is left of ids when so many are taken away, each at a place that is drawn
unfoldable pub left_over : (seed : ℕ) → List ℕ → (count : ℕ) → List ℕ
left_over seed ids zero = ids
left_over seed ids (suc count) =
    let rest = left_over seed ids count in
    remove rest (below seed count (length rest))

-- so many of the ids of so many nodes: those that are taken away
unfoldable pub chosen : (seed nodes count : ℕ) → List ℕ
chosen seed nodes count = others nodes (left_over seed (range_with_len 0 nodes) count)

-- Of the kings of both halves of a halving plan, whose left half tolerates so many faults, the one
-- at a place: they are the first nodes of each half, those of the left half first.
abbrev pub king_at : (left place : ℕ) → ℕ
king_at left place = if nat_lt left place then place + 2 * left else place

-- the place of king i of those that are left without the one at a place
abbrev pub place_past : (without i : ℕ) → ℕ
place_past without i = if nat_lt i without then i else i + 1

-- so many kings, without the one at a place
abbrev pub kings_but : (left without count : ℕ) → List ℕ
kings_but left without count =
    map (λ i. king_at left (place_past without i)) (range_with_len 0 count)

-- the faulty ids, when a correct one takes the place of a faulty one
abbrev pub exchanged : (nodes : ℕ) → (faulty : List ℕ) → (place : ℕ) → (old : ℕ) → List ℕ
exchanged nodes faulty place old = others nodes (slice_set (others nodes faulty) place old)
