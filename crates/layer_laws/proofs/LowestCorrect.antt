-- The lowest id of a correct node.
use Rattle.std.proofs.Common.{◌≡◌, ℕ, ◌+◌, ◌*◌, ◌<◌, ◌≤◌, inl, inr, Bool, true, false, not, cond}
use Rattle.std.proofs.Common.{List}
use Rattle.std.proofs.Common.{length, get_or, Option, Some, None, zero, suc, refl, sym, ap, ◌∙◌}
use Rattle.std.proofs.Common.{subst, arith}
use Rattle.std.specs.Prelude.{position, nat_lt, unwrap_or}
use Rattle.std.specs.List.{range_with_len, position_or_len}
use Rattle.std.proofs.lemmas.Bool.{cases_lt, lt-ltb, le-ltb}
use Rattle.std.proofs.lemmas.List.FromFn.{length-range_with_len, get_or-range_with_len}
use Rattle.std.proofs.lemmas.List.Sums.{position_or_len_is}
use Rattle.sync_types.specs.FaultSets.{is_in}
use Rattle.counting.proofs.Places.{one_fails}
use Rattle.counter_core.proofs.ListsAndPlaces.{places_of_ids}
use Rattle.layer_laws.specs.Lowest.{lowest_correct}

module _ (p : ℕ → Bool) (n : ℕ) where
  abbrev numbers : List ℕ
  numbers = range_with_len 0 n

  size : length numbers ≡ n
  size = length-range_with_len 0 n

  at : (t : ℕ) → t < n → p (get_or numbers t 0) ≡ p t
  at t lt =
      let here : get_or numbers t 0 ≡ t = omega (arith, get_or-range_with_len 0 n t 0 lt) in
      ap p here

  -- the first of them that passes
  pub found : (v : ℕ) → v < n → ((u : ℕ) → u < v → p u ≡ false) → p v ≡ true
      → position p numbers ≡ Some v
  found v lt before is =
      let place : position_or_len p numbers
      ≡ v = position_or_len_is p numbers v 0 (omega (arith, lt, size))
      (λ k klt. at k (omega (arith, klt, lt)) ∙ before k klt) (λ _. at v lt ∙ is) in
      ap (λ (i : ℕ). cond (nat_lt i (length numbers)) (Some i) None) place
      ∙ ap (λ (b : Bool). cond b (Some v) None)
      (lt-ltb v (length numbers) (omega (arith, lt, size)))

  pub none_found : ((u : ℕ) → u < n → p u ≡ false) → position p numbers ≡ None
  none_found fails =
      let place : position_or_len p numbers
      ≡ length numbers = position_or_len_is p numbers (length numbers) 0 (omega arith)
      (λ k lt. at k (omega (arith, lt, size)) ∙ fails k (omega (arith, lt, size)))
      (λ lt. absurd (omega (arith, lt))) in
      ap (λ (i : ℕ). cond (nat_lt i (length numbers)) (Some i) None) place
      ∙ ap (λ (b : Bool). cond b (Some (length numbers)) None)
      (le-ltb (length numbers) (length numbers) (omega arith))

-- all nodes before v are faulty
abbrev pub AreFaulty : (faulty : List ℕ) (v : ℕ) → Type 0
AreFaulty faulty v = (u : ℕ) → u < v → is_in faulty u ≡ true

pub lowest_is : (n : ℕ) (faulty : List ℕ) (v : ℕ) → v < n → AreFaulty faulty v
    → is_in faulty v ≡ false → v ≡ lowest_correct n faulty
lowest_is n faulty v lt before is =
    sym (ap (λ (o : Option ℕ). unwrap_or o 0)
    (found (λ v. not (is_in faulty v)) n v lt (λ u to. ap not (before u to)) (ap not is)))

pub lowest_is_none : (n : ℕ) (faulty : List ℕ) (v : ℕ) → n ≤ v → AreFaulty faulty v
    → 0 ≡ lowest_correct n faulty
lowest_is_none n faulty v le before =
    sym (ap (λ (o : Option ℕ). unwrap_or o 0)
    (none_found (λ v. not (is_in faulty v)) n (λ u to. ap not (before u (omega (arith, le, to))))))

pub faulty_more : (faulty : List ℕ) (v : ℕ) → AreFaulty faulty v → is_in faulty v ≡ true
    → AreFaulty faulty (v + 1)
faulty_more faulty v before is u lt = elim (cases_lt u v) [
  | inl less ↦ before u less
  | inr more ↦ (let here : u ≡ v = omega (arith, lt, more) in ap (is_in faulty) here ∙ is)
]

-- if there is a correct node, it is one
IsLowest : (n : ℕ) (faulty : List ℕ) → Type 0
IsLowest n faulty = (lowest_correct n faulty < n) × (is_in faulty (lowest_correct n faulty) ≡ false)

here : (n : ℕ) (faulty : List ℕ) (v : ℕ) → v < n → AreFaulty faulty v → is_in faulty v ≡ false
    → IsLowest n faulty
unfolding IsLowest
here n faulty v lt before is =
    let same = lowest_is n faulty v lt before is in
    (subst (λ u. u < n) same lt, subst (λ u. is_in faulty u ≡ false) same is)

search_from : (n : ℕ) (faulty : List ℕ) (w : ℕ) → w < n → is_in faulty w ≡ false → (left v : ℕ)
    → v + left ≡ w → AreFaulty faulty v → (b : Bool) → is_in faulty v ≡ b → IsLowest n faulty
search_from n faulty w lt is zero v sum before b e =
    let same : v ≡ w = omega (arith, sum) in
    here n faulty v (omega (arith, lt, same)) before (ap (is_in faulty) same ∙ is)
search_from n faulty w lt is (suc left) v sum before false e =
    here n faulty v (omega (arith, lt, sum)) before e
search_from n faulty w lt is (suc left) v sum before true e =
    search_from n faulty w lt is left (v + 1) (omega (arith, sum)) (faulty_more faulty v before e)
    (is_in faulty (v + 1)) refl

pub lowest_among : (n : ℕ) (faulty : List ℕ) (w : ℕ) → w < n → is_in faulty w ≡ false
    → (lowest_correct n faulty < n) × (is_in faulty (lowest_correct n faulty) ≡ false)
unfolding IsLowest
lowest_among n faulty w lt is =
    search_from n faulty w lt is w 0 (omega arith) (λ u ult. absurd (omega (arith, ult)))
    (is_in faulty 0) refl

-- and there is one, if few enough are faulty
pub lowest_leads : (n faults : ℕ) (faulty : List ℕ) → 3 * faults < n → length faulty ≤ faults
    → (lowest_correct n faulty < n) × (is_in faulty (lowest_correct n faulty) ≡ false)
lowest_leads n faults faulty quorum few =
    let some = one_fails (is_in faulty) n
    (omega (arith, places_of_ids faulty n, few, quorum)) in
    lowest_among n faulty some.0 some.1 some.2
