-- The majority of values with those of the lies.
use Rattle.std.proofs.Common.{◌≡◌, ℕ, ◌+◌, ◌/◌, ◌<◌, ◌≤◌, List, ◌++◌, length, get_or, Option, Some}
use Rattle.std.proofs.Common.{None, unwrap_or, sym, ap, subst, ⊎_elim, arith}
use Rattle.std.proofs.lemmas.Bool.{cases_lt}
use Rattle.std.proofs.lemmas.List.{length-append}
use Rattle.counting.specs.Values.{count_of, majority_of, least_above}
use Rattle.counting.proofs.Counts.{count_of-append, held_from_count}
use Rattle.counting.proofs.Least.{least_has, least_above_none}
use Rattle.counting.proofs.Majority.{majority_is, no_majority}

module _ (values told : List (Option ℕ)) (half : ℕ)
    (is_half : half ≡ (length values + length told) / 2) where
  -- a number that more than half of all places hold
  pub found : (z : ℕ) → half < count_of (values ++ told) (Some z)
      → z ≡ unwrap_or (majority_of (values ++ told)) 0
  found z above = sym (ap (λ o. unwrap_or o 0) (majority_is (values ++ told) z
      (omega (arith, is_half, above, length-append values told))))

  -- one that so many hold without the lies
  pub found_before : (z : ℕ) → least_above half values ≡ Some z
      → z ≡ unwrap_or (majority_of (values ++ told)) 0
  found_before z is = found z (omega (
    arith,
    least_has half values z is,
    count_of-append values told (Some z),
  ))

  -- there is none if neither the others nor the lies have one
  pub none_found : least_above half values ≡ None
      → ((k : ℕ) → k < length told → count_of (values ++ told) (get_or told k None) ≤ half)
      → 0 ≡ unwrap_or (majority_of (values ++ told)) 0
  none_found none each = sym (ap (λ o. unwrap_or o 0) (no_majority (values ++ told) (λ z.
      ⊎_elim
      (λ (held : 0 < count_of told (Some z)).
      let at = held_from_count told (Some z) held in
      let few : count_of (values ++ told) (Some z) ≤ half =
      subst (λ o. count_of (values ++ told) o ≤ half) at.2 (each at.0 at.1) in
      omega (arith, is_half, few, length-append values told))
      (λ (absent : count_of told (Some z) ≤ 0).
      omega (
        arith,
        is_half,
        absent,
        length-append values told,
        count_of-append values told (Some z),
        least_above_none half values z none,
      ))
      (cases_lt 0 (count_of told (Some z))))))
