-- The value that more than half of a list's places hold.
use Rattle.std.proofs.Common.{◌≡◌, ◌≢◌, ◌⊎◌, ℕ, zero, suc, ◌*◌, ◌<◌, ◌≤◌, Bool, true, false}
use Rattle.std.proofs.Common.{if◌then◌else◌, List, [], ◌∷◌, map, length, get_or, nat_eq, nat_lt}
use Rattle.std.proofs.Common.{Option, Some, None, unwrap_or, refl, sym, ap, ◌∙◌, subst, inl, inr}
use Rattle.std.proofs.Common.{⊎_elim, arith}
use Rattle.std.proofs.lemmas.Bool.{cases_Bool, true≢false, cases_eq, cases_lt, ltb-true, lt-ltb}
use Rattle.std.proofs.lemmas.Bool.{eqb-true, eq-eqb}
use Rattle.std.proofs.lemmas.List.{length-map}
use Rattle.counting.specs.Places.{places}
use Rattle.counting.specs.Values.{count_of, first_passing, majority_of, majority_or_zero}
use Rattle.counting.proofs.Places.{cover_all, one_passes}
use Rattle.counting.proofs.Counts.{two_values, held_from_count, count_of_most}
use Rattle.counting.proofs.Counts.{count_of_numbers-places}

first_passes_by : (passes : ℕ → Bool) (a j : ℕ) (rest : Option ℕ) (b : Bool) → passes a ≡ b
    → (if b then Some a else rest) ≡ Some j → (rest ≡ Some j → passes j ≡ true) → passes j ≡ true
first_passes_by passes a j rest true h e more =
    let f : a ≡ j = cc in subst (λ z. passes z ≡ true) f h
first_passes_by passes a j rest false h e more = more e

-- the first value that passes passes
pub first_passes : (passes : ℕ → Bool) (values : List (Option ℕ)) (j : ℕ)
    → first_passing passes values ≡ Some j → passes j ≡ true
first_passes passes [] j e = absurd (cc)
first_passes passes (None ∷ values) j e = first_passes passes values j e
first_passes passes (Some a ∷ values) j e =
    first_passes_by passes a j (first_passing passes values) (passes a) refl e
    (first_passes passes values j)

first_none_by : (a : ℕ) (rest : Option ℕ) (b : Bool) → (if b then Some a else rest) ≡ None
    → (b ≡ false) × (rest ≡ None)
first_none_by a rest true e = absurd (cc)
first_none_by a rest false e = (refl, e)

-- if none passes, each finite value there fails
pub first_none : (passes : ℕ → Bool) (values : List (Option ℕ)) (i z : ℕ)
    → first_passing passes values ≡ None → i < length values → get_or values i None ≡ Some z
    → passes z ≡ false
first_none passes [] i z e lt h = absurd (omega arith)
first_none passes (None ∷ values) zero z e lt h = absurd (cc)
first_none passes (None ∷ values) (suc i) z e lt h = first_none passes values i z e (omega arith) h
first_none passes (Some a ∷ values) zero z e lt h =
    let f : a ≡ z = cc in
    subst (λ z. passes z ≡ false) f (first_none_by a (first_passing passes values) (passes a) e).0
first_none passes (Some a ∷ values) (suc i) z e lt h =
    first_none passes values i z (first_none_by a (first_passing passes values) (passes a) e).1
    (omega arith) h

-- a majority is held by more than half of the places
pub majority_has : (values : List (Option ℕ)) (z : ℕ) → majority_of values ≡ Some z
    → length values < 2 * count_of values (Some z)
majority_has values z e =
    ltb-true _ _
    (first_passes (λ a. nat_lt (length values) (2 * count_of values (Some a))) values z e)

-- values that more than half of the places hold are one value, infinity too
pub one_majority : (values : List (Option ℕ)) (y z : Option ℕ)
    → length values < 2 * count_of values y → length values < 2 * count_of values z → y ≡ z
one_majority values y z g h =
    ⊎_elim (λ e. e) (λ ne. absurd (omega (arith, two_values values y z ne))) (cases_value y z)
  where
    cases_value : (y z : Option ℕ) → (y ≡ z) ⊎ (y ≢ z)
    cases_value None None = inl refl
    cases_value None (Some z) = inr (λ e. cc)
    cases_value (Some y) None = inr (λ e. cc)
    cases_value (Some y) (Some z) =
        ⊎_elim (λ e. inl (ap Some e)) (λ ne. inr (λ e. ne (cc))) (cases_eq y z)

majority_by : (values : List (Option ℕ)) (z : ℕ) → length values < 2 * count_of values (Some z)
    → (o : Option ℕ) → majority_of values ≡ o → o ≡ Some z
majority_by values z h (Some y) e =
    one_majority values (Some y) (Some z) (majority_has values y e) h
majority_by values z h None e =
    let s = held_from_count values (Some z) (omega arith) in
    absurd
    (true≢false
    (sym (lt-ltb (length values) (2 * count_of values (Some z)) h)
    ∙ first_none (λ a. nat_lt (length values) (2 * count_of values (Some a))) values s.0 z e
    s.1 s.2))

-- a number that more than half of the places hold is the majority
pub majority_is : (values : List (Option ℕ)) (z : ℕ) → length values < 2 * count_of values (Some z)
    → majority_of values ≡ Some z
majority_is values z h = majority_by values z h (majority_of values) refl

-- if there is no majority, no number is held by more than half of the places
pub majority_none : (values : List (Option ℕ)) (z : ℕ) → majority_of values ≡ None
    → 2 * count_of values (Some z) ≤ length values
majority_none values z e = ⊎_elim
    (λ more. let f : Some z ≡ None = sym (majority_is values z more) ∙ e in absurd (cc))
    (λ le. le)
    (cases_lt (length values) (2 * count_of values (Some z)))

no_majority_by : (values : List (Option ℕ))
    → ((z : ℕ) → 2 * count_of values (Some z) ≤ length values) → (o : Option ℕ)
    → majority_of values ≡ o → o ≡ None
no_majority_by values h (Some z) e = absurd (omega (arith, h z, majority_has values z e))
no_majority_by values h None e = refl

-- if no number is held by more than half of the places, there is no majority
pub no_majority : (values : List (Option ℕ))
    → ((z : ℕ) → 2 * count_of values (Some z) ≤ length values) → majority_of values ≡ None
no_majority values h = no_majority_by values h (majority_of values) refl

-- if all places but fewer than half hold a number, it is the majority
pub majority_of_most : (values : List (Option ℕ)) (odd : ℕ → Bool) (z : ℕ)
    → 2 * places odd (length values) < length values
    → ((i : ℕ) → i < length values → odd i ≡ false → get_or values i None ≡ Some z)
    → majority_of values ≡ Some z
majority_of_most values odd z few h =
    majority_is values z (omega (arith, count_of_most values odd (Some z) h))

-- among numbers: if all places but fewer than half hold one, it is the majority
pub majority_or_zero_of_most : (numbers : List ℕ) (odd : ℕ → Bool) (z : ℕ)
    → 2 * places odd (length numbers) < length numbers
    → ((i : ℕ) → i < length numbers → odd i ≡ false → get_or numbers i 0 ≡ z)
    → majority_or_zero numbers ≡ z
majority_or_zero_of_most numbers odd z few h =
    ap (λ o. unwrap_or o 0) (majority_is (map Some numbers) z (omega (
      arith,
      length-map numbers Some,
      count_of_numbers-places numbers z,
      cover_all odd (λ i. nat_eq z (get_or numbers i 0)) (length numbers)
          (λ i lt. ⊎_elim inl (λ e. inr (eq-eqb z _ (sym (h i lt e)))) (cases_Bool (odd i))),
    )))

member_or_zero_by : (numbers : List ℕ) (o : Option ℕ) → majority_of (map Some numbers) ≡ o
    → ((i : ℕ) × (i < length numbers) × (get_or numbers i 0 ≡ unwrap_or o 0)) ⊎ (unwrap_or o 0 ≡ 0)
member_or_zero_by numbers None e = inr refl
member_or_zero_by numbers (Some z) e =
    let s = one_passes (λ i. nat_eq z (get_or numbers i 0)) (length numbers)
    (omega (arith, majority_has (map Some numbers) z e, count_of_numbers-places numbers z)) in
    inl (s.0, s.1, sym (eqb-true z _ s.2))

-- a majority of numbers stands among them, or is 0
pub member_or_zero : (numbers : List ℕ)
    → ((i : ℕ) × (i < length numbers) × (get_or numbers i 0 ≡ majority_or_zero numbers))
    ⊎ (majority_or_zero numbers ≡ 0)
member_or_zero numbers = member_or_zero_by numbers (majority_of (map Some numbers)) refl

-- a majority of numbers that are below m at each place is below m
pub majority_below_at : (numbers : List ℕ) (m : ℕ) → 0 < m
    → ((i : ℕ) → i < length numbers → get_or numbers i 0 < m) → majority_or_zero numbers < m
majority_below_at numbers m positive h = ⊎_elim
    (λ s. subst (λ x. x < m) s.2 (h s.0 s.1))
    (λ e. subst (λ x. x < m) (sym e) positive)
    (member_or_zero numbers)
