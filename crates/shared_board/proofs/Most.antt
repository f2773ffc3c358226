-- The number that most of a list are.
use Rattle.std.proofs.Common.{◌≡◌, ℕ, ◌+◌, ◌-◌, ◌/◌, ◌<◌, ◌≤◌, List, map, length, get_or, Option}
use Rattle.std.proofs.Common.{Some, None, unwrap_or, sym, ap, ◌∙◌, subst, ⊎_elim, arith}
use Rattle.std.proofs.lemmas.Bool.{cases_lt}
use Rattle.std.proofs.lemmas.List.{length-map, get_or-map}
use Rattle.counting.specs.Values.{count_of, majority_or_zero}
use Rattle.counting.proofs.Counts.{holds_at, holds_is, count_of-places_at}
use Rattle.counting.proofs.Places.{one_passes, stretches, at_most}
use Rattle.counting.proofs.Majority.{majority_is, no_majority}

module _ (numbers : List ℕ) (half : ℕ) (is_half : half ≡ length numbers / 2) where
  -- one that more than half are
  pub most_is : (z : ℕ) → half < count_of (map Some numbers) (Some z)
      → z ≡ majority_or_zero numbers
  most_is z above = sym (ap (λ o. unwrap_or o 0) (majority_is (map Some numbers) z
      (omega (arith, is_half, above, length-map numbers (λ (x : ℕ). Some x)))))

  -- one that more than half are is found without half of the places
  found_early : (z : ℕ) → half < count_of (map Some numbers) (Some z)
      → (k : ℕ) × (k < length numbers - half) × (get_or (map Some numbers) k None ≡ Some z)
  found_early z above =
      let values : List (Option ℕ) = map Some numbers in
      let long = length-map numbers (λ (x : ℕ). Some x) in
      let parts : length numbers - half + half ≡ length numbers = omega (arith, is_half) in
      let s = one_passes (holds_at values (Some z)) (length numbers - half) (omega (
        arith,
        above,
        count_of-places_at values (Some z) (length numbers - half + half) (long ∙ sym parts),
        stretches (holds_at values (Some z)) (length numbers - half) half,
        at_most (λ i. holds_at values (Some z) (length numbers - half + i)) half,
      )) in
      (s.0, s.1, holds_is values (Some z) s.0 s.2)

  -- none of them is
  pub none_is : ((k : ℕ) → k < length numbers - half
      → count_of (map Some numbers) (Some (get_or numbers k 0)) ≤ half)
      → 0 ≡ majority_or_zero numbers
  none_is each = sym (ap (λ o. unwrap_or o 0) (no_majority (map Some numbers) (λ z.
      ⊎_elim
      (λ (above : half < count_of (map Some numbers) (Some z)).
      let at = found_early z above in
      let within : at.0 < length numbers = omega (arith, at.1) in
      let few : count_of (map Some numbers) (Some z) ≤ half =
      subst (λ o. count_of (map Some numbers) o ≤ half)
      (sym (get_or-map (λ (x : ℕ). Some x) numbers at.0 0 None within) ∙ at.2)
      (each at.0 at.1) in
      absurd (omega (arith, above, few)))
      (λ (few : count_of (map Some numbers) (Some z) ≤ half).
      omega (arith, is_half, few, length-map numbers (λ (x : ℕ). Some x)))
      (cases_lt half (count_of (map Some numbers) (Some z))))))
