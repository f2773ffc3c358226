-- How many places of a list hold a value: `count_of` by places, and what it says of the list.
use Rattle.std.proofs.Common.{◌≡◌, ◌≢◌, ℕ, ◌+◌, ◌<◌, ◌≤◌, Bool, true, false, if◌then◌else◌, List}
use Rattle.std.proofs.Common.{[], ◌∷◌, ◌++◌, map, length, get_or, count_by, nat_eq, Option, Some}
use Rattle.std.proofs.Common.{None, refl, sym, ap, ◌∙◌, subst, inl, inr, ⊎_elim, arith}
use Rattle.std.proofs.lemmas.Bool.{cases_Bool, false≢true, eqb-true, eq-eqb}
use Rattle.std.proofs.lemmas.List.Sums.{sum_by-cons, sum_by-append}
use Rattle.std.specs.Option.{option_eq}
use Rattle.counting.specs.Places.{places}
use Rattle.counting.specs.Values.{count_of}
use Rattle.counting.proofs.Places.{apart, cover_all, count_by_places, one_passes, at_most}

-- values that are found equal are one value
pub same_value : (y z : Option ℕ) → option_eq nat_eq y z ≡ true → y ≡ z
same_value None None h = refl
same_value None (Some z) h = absurd (false≢true h)
same_value (Some y) None h = absurd (false≢true h)
same_value (Some y) (Some z) h = ap Some (eqb-true y z h)

-- a value is found equal to itself
pub value_itself : (z : Option ℕ) → option_eq nat_eq z z ≡ true
value_itself None = refl
value_itself (Some z) = eq-eqb z z refl

-- whether place i of a list holds z
abbrev pub holds_at : List (Option ℕ) → Option ℕ → ℕ → Bool
holds_at values z i = option_eq nat_eq z (get_or values i None)

-- a place that is found to hold z holds it
pub holds_is : (values : List (Option ℕ)) (z : Option ℕ) (i : ℕ) → holds_at values z i ≡ true
    → get_or values i None ≡ z
holds_is values z i h = sym (same_value z (get_or values i None) h)

-- a place that holds z is found to
pub holds_from : (values : List (Option ℕ)) (z : Option ℕ) (i : ℕ) → get_or values i None ≡ z
    → holds_at values z i ≡ true
holds_from values z i e = subst (λ y. option_eq nat_eq z y ≡ true) (sym e) (value_itself z)

-- the places that hold z, counted
pub count_of-places : (values : List (Option ℕ)) (z : Option ℕ)
    → count_of values z ≡ places (holds_at values z) (length values)
count_of-places values z = count_by_places (option_eq nat_eq z) values None

-- the same if the length is known by another name
pub count_of-places_at : (values : List (Option ℕ)) (z : Option ℕ) (n : ℕ) → length values ≡ n
    → count_of values z ≡ places (holds_at values z) n
count_of-places_at values z n long = count_of-places values z ∙ ap (places (holds_at values z)) long

-- the first place apart
pub count_of-cons : (y : Option ℕ) (values : List (Option ℕ)) (z : Option ℕ)
    → count_of (y ∷ values) z ≡ (if option_eq nat_eq z y then 1 else 0) + count_of values z
count_of-cons y values z = sum_by-cons (λ x. if option_eq nat_eq z x then 1 else 0) y values

-- a value counts in two lists, one after the other, as often as in both
pub count_of-append : (xs ys : List (Option ℕ)) (z : Option ℕ)
    → count_of (xs ++ ys) z ≡ count_of xs z + count_of ys z
count_of-append xs ys z = sum_by-append (λ x. if option_eq nat_eq z x then 1 else 0) xs ys

-- a value is held by no more places than there are
pub count_of-le : (values : List (Option ℕ)) (z : Option ℕ) → count_of values z ≤ length values
count_of-le values z =
    omega (arith, count_of-places values z, at_most (holds_at values z) (length values))

-- a value that counts is held by some place
pub held_from_count : (values : List (Option ℕ)) (z : Option ℕ) → 0 < count_of values z
    → (i : ℕ) × (i < length values) × (get_or values i None ≡ z)
held_from_count values z h =
    let s = one_passes (holds_at values z) (length values)
    (omega (arith, count_of-places values z)) in
    (s.0, s.1, holds_is values z s.0 s.2)

-- two values share no place
pub two_values : (values : List (Option ℕ)) (y z : Option ℕ) → y ≢ z
    → count_of values y + count_of values z ≤ length values
two_values values y z ne = omega (
  arith,
  count_of-places values y,
  count_of-places values z,
  apart (holds_at values y) (holds_at values z) (length values)
      (λ i lt p q. ne (sym (holds_is values y i p) ∙ holds_is values z i q)),
)

-- if all places but the odd ones hold z
pub count_of_most : (values : List (Option ℕ)) (odd : ℕ → Bool) (z : Option ℕ)
    → ((i : ℕ) → i < length values → odd i ≡ false → get_or values i None ≡ z)
    → length values ≤ places odd (length values) + count_of values z
count_of_most values odd z h = omega (
  arith,
  count_of-places values z,
  cover_all odd (holds_at values z) (length values)
      (λ i lt. ⊎_elim inl (λ e. inr (holds_from values z i (h i lt e))) (cases_Bool (odd i))),
)

-- a number's places among numbers, and its places among values
pub count_of_numbers : (numbers : List ℕ) (x : ℕ)
    → count_of (map Some numbers) (Some x) ≡ count_by (nat_eq x) numbers
count_of_numbers [] x = refl
count_of_numbers (y ∷ numbers) x =
    count_of-cons (Some y) (map Some numbers) (Some x)
    ∙ ap (λ k. (if nat_eq x y then 1 else 0) + k) (count_of_numbers numbers x)
    ∙ sym (sum_by-cons (λ z. if nat_eq x z then 1 else 0) y numbers)

-- a number's places among numbers, counted by places
pub count_of_numbers-places : (numbers : List ℕ) (x : ℕ)
    → count_of (map Some numbers) (Some x)
    ≡ places (λ i. nat_eq x (get_or numbers i 0)) (length numbers)
count_of_numbers-places numbers x =
    count_of_numbers numbers x ∙ count_by_places (nat_eq x) numbers 0
