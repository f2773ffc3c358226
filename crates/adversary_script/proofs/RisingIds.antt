-- Ids that rise and are those of nodes, one after the other.
use Rattle.std.proofs.Common.{◌≡◌, ℕ, zero, suc, ◌-◌, ◌<◌, List, [], ◌∷◌, length, take, get_or}
use Rattle.std.proofs.Common.{slice_index, true, nat_lt, arith}
use Rattle.std.proofs.lemmas.Bool.{ltb-true, and_parts}
use Rattle.std.proofs.lemmas.List.{get_or-take, length-take-le}
use Rattle.std.proofs.lemmas.List.Sums.{AllPass-from_list_all}
use Rattle.adversary_script.specs.WordTests.{are_below, is_rising}

pub id_below : (n : ℕ) (ids : List ℕ) (i d : ℕ) → are_below n ids ≡ true → i < length ids
    → get_or ids i d < n
id_below n ids i d all lt = ltb-true _ n (AllPass-from_list_all (λ id. nat_lt id n) ids all i d lt)

pub rises_at : (ids : List ℕ) (i d : ℕ) → is_rising ids ≡ true → suc i < length ids
    → get_or ids i d < get_or ids (suc i) d
rises_at [] i d rises lt = absurd (omega arith)
rises_at (x ∷ []) i d rises lt = absurd (omega arith)
rises_at (x ∷ y ∷ ys) zero d rises lt =
    ltb-true x y (and_parts (nat_lt x y) (is_rising (y ∷ ys)) rises).0
rises_at (x ∷ y ∷ ys) (suc i) d rises lt =
    rises_at (y ∷ ys) i d (and_parts (nat_lt x y) (is_rising (y ∷ ys)) rises).1 (omega arith)

-- the last of those before a place is below the one at that place
pub rising_taken : (ids : List ℕ) (i : ℕ) → is_rising ids ≡ true → i < length ids
    → 0 < length (take i ids) → slice_index (take i ids) (length (take i ids) - 1) < get_or ids i 0
rising_taken ids zero rises lt some = absurd (omega arith)
rising_taken ids (suc j) rises lt some =
    let long : length (take (suc j) ids) ≡ suc j = length-take-le (suc j) ids (omega arith) in
    let last : length (take (suc j) ids) - 1 ≡ j = omega arith in
    let here : get_or (take (suc j) ids) j 0 ≡ get_or ids j 0 =
    get_or-take (suc j) ids j 0 (omega arith) in
    rw (last, here) (rises_at ids j 0 rises lt)
