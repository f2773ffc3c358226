-- A rising list of ids, and one more at its end.
use Rattle.std.proofs.Common.{◌≡◌, ◌≢◌, ◌⊎◌, ℕ, zero, suc, ◌+◌, ◌-◌, ◌<◌, ◌≤◌, Bool, true, false}
use Rattle.std.proofs.Common.{◌||◌, eqb, List, [], ◌∷◌, ◌++◌, length, get_or, set, All, refl, sym}
use Rattle.std.proofs.Common.{ap, ◌∙◌, subst, inl, inr, ⊎_elim, arith}
use Rattle.std.specs.List.Sorted.{IsStrictlyIncreasing}
use Rattle.std.proofs.Math.Bool.{or-true, or-false}
use Rattle.std.proofs.lemmas.Bool.{cases_lt}
use Rattle.std.proofs.lemmas.Bool.Decides.{eqb_tells}
use Rattle.std.proofs.lemmas.List.{get_or-set_same, get_or-set_other, length_push, length-set}
use Rattle.std.proofs.lemmas.List.Elements.{All-push, All-get_or}
use Rattle.std.proofs.lemmas.List.Folds.{list_any-append}
use Rattle.std.proofs.Math.ListN.{get_or-append}
use Rattle.std.proofs.Math.Seq.{get_or-append_seam}
use Rattle.sync_types.specs.FaultSets.{is_in, IsValidFaultSet}

-- place i of rising numbers holds at least i
pub rising_from : (ids : List ℕ) → IsStrictlyIncreasing ids → (i : ℕ) → i < length ids
    → i ≤ get_or ids i 0
rising_from ids rising zero lt = omega arith
rising_from ids rising (suc i) lt =
    let here : get_or ids i 0 < get_or ids (i + 1) 0 = rising i (omega arith) in
    let e : suc i ≡ i + 1 = omega arith in
    let before = rising_from ids rising i (omega arith) in
    rw e (omega arith)

-- so a node above the last of them is one of more nodes than there are ids
pub room_for : (ids : List ℕ) (id : ℕ) → IsStrictlyIncreasing ids
    → (0 < length ids → get_or ids (length ids - 1) 0 < id) → length ids ≤ id
room_for ids id rising above =
    ⊎_elim (λ none. omega arith)
    (λ some. let last = above some in
    let at_least = rising_from ids rising (length ids - 1) (omega arith) in
    omega arith)
    (none_or_some (length ids)) where
      none_or_some : (n : ℕ) → (n ≡ 0) ⊎ (0 < n)
      none_or_some zero = inl refl
      none_or_some (suc n) = inr (omega arith)

-- below a number there are no more of them than that number
pub count_below : (n : ℕ) (ids : List ℕ) → IsStrictlyIncreasing ids → All (λ id. id < n) ids
    → length ids ≤ n
count_below n ids rising below =
    room_for ids n rising
    (λ some. All-get_or (λ id. id < n) ids (length ids - 1) 0 (omega arith) below)

-- they still rise
pub rising_push : (ids : List ℕ) (id : ℕ) → IsStrictlyIncreasing ids
    → (0 < length ids → get_or ids (length ids - 1) 0 < id) → IsStrictlyIncreasing (ids ++ id ∷ [])
rising_push ids id rising above k lt =
    let long = length_push ids id in
    ⊎_elim
    (λ inside.
    let here = get_or-append ids (id ∷ []) 0 k (omega arith) in
    let next = get_or-append ids (id ∷ []) 0 (k + 1) inside in
    let less : get_or ids k 0 < get_or ids (k + 1) 0 = rising k inside in
    omega arith)
    (λ end.
    let e : k + 1 ≡ length ids = omega arith in
    let z : length ids - 1 ≡ k = omega arith in
    let here = get_or-append ids (id ∷ []) 0 k (omega arith) in
    let next = ap (λ i. get_or (ids ++ id ∷ []) i 0) e ∙ get_or-append_seam ids id [] 0 in
    let less : get_or ids k 0 < id = subst (λ i. get_or ids i 0 < id) z (above (omega arith)) in
    omega arith)
    (cases_lt (k + 1) (length ids))

-- the marks of the ids so far and of one more
marked_push : (ids : List ℕ) (id : ℕ) (marks : List Bool)
    → ((v : ℕ) → get_or marks v false ≡ is_in ids v) → id < length marks → (v : ℕ)
    → get_or (set marks id true) v false ≡ is_in (ids ++ id ∷ []) v
marked_push ids id marks marked lt v =
    by (eqb_tells v id) ∙ sym (list_any-append (λ i. eqb v i) ids (id ∷ [])) where
      by : ((eqb v id ≡ true) × (v ≡ id)) ⊎ ((eqb v id ≡ false) × (v ≢ id))
          → get_or (set marks id true) v false ≡ (is_in ids v || (eqb v id || false))
      by (inl same) =
          ap (λ u. get_or (set marks id true) u false) same.1
          ∙ get_or-set_same marks id true false lt
          ∙ sym (ap (λ b. is_in ids v || (b || false)) same.0 ∙ or-true (is_in ids v))
      by (inr other) =
          get_or-set_other marks id v true false other.1 ∙ marked v
          ∙ sym (ap (λ b. is_in ids v || (b || false)) other.0 ∙ or-false (is_in ids v))

-- the set that is kept after one more id
pub kept_push : (nodes : ℕ) (ids : List ℕ) (marks : List Bool) (capacity more id : ℕ)
    → capacity ≤ more → IsValidFaultSet nodes ids marks capacity → id < nodes
    → (0 < length ids → get_or ids (length ids - 1) 0 < id)
    → IsValidFaultSet nodes (ids ++ id ∷ []) (set marks id true) more
kept_push nodes ids marks capacity more id le kept lt above = record {
  rising = rising_push ids id kept.rising above;
  below = All-push (λ i. i < nodes) ids id kept.below lt;
  size = length-set marks id true ∙ kept.size;
  marked = marked_push ids id marks kept.marked (omega (arith, kept.size));
  room = let room = kept.room in omega arith;
}
