-- Marks and counts of liars, node by node.
use Rattle.std.proofs.Common.{◌≡◌, ℕ, suc, ◌+◌, ◌<◌, ◌≤◌, Bool, true, false, if◌then◌else◌, List}
use Rattle.std.proofs.Common.{[], ◌∷◌, ◌++◌, length, map, take, set, sym, ap, ◌∙◌, arith}
use Rattle.std.specs.List.{range_with_len}
use Rattle.std.proofs.lemmas.List.{take_more_set, take_all, length-set}
use Rattle.std.proofs.lemmas.List.FromFn.{map-range_with_len_more}
use Rattle.counting.proofs.Places.{at_most}
use Rattle.sync_types.specs.FaultSets.{is_in}
use Rattle.shared_board.specs.Sharing.{place_among}
use Rattle.shared_board.proofs.Ids.{places_of_all}
use Rattle.shared_board.specs.Boards.{AreLiars}

-- one more place of a list that is filled place by place
pub one_more : {X : Type 0} → (f : ℕ → X) (v : ℕ) (x : X) (xs : List X) → v < length xs
    → take v xs ≡ map f (range_with_len 0 v) → x ≡ f v
    → take (v + 1) (set xs v x) ≡ map f (range_with_len 0 (v + 1))
one_more f v x xs lt h e =
    take_more_set xs v x lt
    ∙ (ap (λ ys. ys ++ x ∷ []) h
    ∙ (ap (λ y. map f (range_with_len 0 v) ++ y ∷ []) e
    ∙ sym (map-range_with_len_more f 0 v v (omega arith))))

-- and the last one
pub last_one : {X : Type 0} → (f : ℕ → X) (v : ℕ) (x : X) (xs : List X) → length xs ≡ v + 1
    → take v xs ≡ map f (range_with_len 0 v) → x ≡ f v
    → set xs v x ≡ map f (range_with_len 0 (v + 1))
last_one f v x xs long h e =
    sym (take_all (v + 1) (set xs v x) (omega (arith, long, length-set xs v x)))
    ∙ one_more f v x xs (omega (arith, long)) h e

pub at_most_one : (b : Bool) → (if b then 1 else 0) ≤ 1
at_most_one true = omega arith
at_most_one false = omega arith

-- one more node is counted, if it lies
pub counted : (ids : List ℕ) (v count : ℕ) (b : Bool) → b ≡ is_in ids v → count ≡ place_among ids v
    → count + (if b then 1 else 0) ≡ place_among ids (v + 1)
counted ids v count b e h =
    let next : suc v ≡ v + 1 = omega arith in
    ap (λ c. c + (if b then 1 else 0)) h
    ∙ (ap (λ b. place_among ids v + (if b then 1 else 0)) e ∙ ap (place_among ids) next)

-- there are no more liars than nodes
pub few_liars : (nodes : ℕ) (ids : List ℕ) → AreLiars nodes ids → length ids ≤ nodes
few_liars nodes ids are =
    omega (arith, places_of_all ids nodes are.rising are.below, at_most (is_in ids) nodes)
