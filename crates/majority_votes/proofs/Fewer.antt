-- What one place fewer of a number does to the counts.
use Rattle.std.proofs.Common.{◌≡◌, ℕ, zero, suc, ◌+◌, ◌<◌, ◌≤◌, All, eqb, if◌then◌else◌, List, []}
use Rattle.std.proofs.Common.{◌∷◌, length, set, sym, ap, subst, ⊎_elim, arith}
use Rattle.std.specs.List.{remove}
use Rattle.std.proofs.lemmas.Bool.{cases_lt}
use Rattle.std.proofs.lemmas.Bool.Decides.{nat_tests}
use Rattle.std.proofs.lemmas.Grind.{common_steps}
use Rattle.std.proofs.lemmas.List.Edits.{length-remove, get_or-remove_below, get_or-remove_above}
use Rattle.std.proofs.lemmas.List.Elements.{All-set}
use Rattle.std.proofs.lemmas.List.Sums.{sum_by-set, sum_by-remove}
use Rattle.majority_votes.specs.declared.counts.Count.{Count}
use Rattle.majority_votes.specs.Counts.{count_at, value_at, places_of, IsRising, IsAt}
use Rattle.majority_votes.specs.Counts.{CountsOneLess}
use Rattle.majority_votes.proofs.Lookups.{NoneBefore, none_before, none_before_tail, is_at_tail}
use Rattle.majority_votes.proofs.Lookups.{places_of_absent}

-- fewer places at the first count of a number
places_of_put : (counts : List Count) (number i q : ℕ) → IsAt counts number i
    → NoneBefore counts number i → (count_at counts i).places ≡ q + 1 → (z : ℕ)
    → places_of counts z
    ≡ places_of (set counts i (record { value = number; places = q })) z
    + (if eqb z number then 1 else 0)
places_of_put [] number i q at none e z = absurd (omega (arith, at.in_range))
places_of_put (x ∷ counts) number zero q at none e z = grind (arith, nat_tests, at.has_value)
places_of_put (x ∷ counts) number (suc i) q at none e z =
    grind (
      arith,
      nat_tests,
      none 0 (omega arith),
      places_of_put counts number i q (is_at_tail x counts number i at)
          (none_before_tail x counts number i none) e z,
    )

-- the last place of a number, with its count
places_of_remove : (counts : List Count) (number i : ℕ) → IsAt counts number i
    → NoneBefore counts number i → (count_at counts i).places ≡ 1
    → places_of (remove counts i) number ≡ 0 → (z : ℕ)
    → places_of counts z ≡ places_of (remove counts i) z + (if eqb z number then 1 else 0)
places_of_remove [] number i at none e gone z = absurd (omega (arith, at.in_range))
places_of_remove (x ∷ counts) number zero at none e gone z = grind (arith, nat_tests, at.has_value)
places_of_remove (x ∷ counts) number (suc i) at none e gone z =
    let other = none 0 (omega arith) in
    grind (
      arith,
      nat_tests,
      other,
      places_of_remove counts number i (is_at_tail x counts number i at)
          (none_before_tail x counts number i none) e (grind (arith, nat_tests, other, gone)) z,
    )

All-remove : (P : Count → Type 0) (counts : List Count) (i : ℕ) → i < length counts → All P counts
    → All P (remove counts i)
All-remove P counts i lt all k d within = ⊎_elim
    (λ below. subst P (sym (get_or-remove_below counts i d k below lt))
    (all k d (omega (arith, length-remove counts i lt))))
    (λ le. subst P (sym (get_or-remove_above counts i d k le lt))
    (all (k + 1) d (omega (arith, length-remove counts i lt))))
    (cases_lt k i)

module _ (counts : List Count) (rising : IsRising counts) (number i : ℕ) (at : IsAt counts number i)
  where
    -- the others keep their order
    value_without_below : (j : ℕ) → j < i → value_at (remove counts i) j ≡ value_at counts j
    value_without_below j lt =
        ap (λ (count : Count). count.value)
        (get_or-remove_below counts i (record { value = 0; places = 0 }) j lt at.in_range)

    value_without_above : (j : ℕ) → i ≤ j → value_at (remove counts i) j ≡ value_at counts (j + 1)
    value_without_above j le =
        ap (λ (count : Count). count.value)
        (get_or-remove_above counts i (record { value = 0; places = 0 }) j le at.in_range)

    rising_without : IsRising (remove counts i)
    rising_without j k lt in_range = grind (
      arith,
      length-remove counts i at.in_range,
      value_without_below j,
      value_without_above j,
      value_without_below k,
      value_without_above k,
      rising j k,
      rising j (k + 1),
      rising (j + 1) (k + 1),
    )

    none_without : NoneBefore (remove counts i) number (length (remove counts i))
    none_without j lt same = grind (
      arith,
      length-remove counts i at.in_range,
      value_without_below j,
      value_without_above j,
      at.has_value,
      rising j i,
      rising i (j + 1),
      at.in_range,
    )

    pub one_less_remove : All (λ (count : Count). 1 ≤ count.places) counts
        → (count_at counts i).places ≡ 1 → CountsOneLess counts (remove counts i) number
    one_less_remove positive e = record {
      rising = rising_without;
      positive = All-remove (λ (count : Count). 1 ≤ count.places) counts i at.in_range positive;
      places =
          places_of_remove counts number i at (none_before counts number i rising at) e
          (places_of_absent (remove counts i) number none_without);
      total =
          omega (
            arith,
            e,
            sum_by-remove (λ (count : Count). count.places) counts i
                (record { value = 0; places = 0 }) at.in_range,
          );
    }

    rising_put : (q : ℕ) → IsRising (set counts i (record { value = number; places = q }))
    rising_put q j k lt in_range =
        grind (arith, common_steps, rising j k, rising j i, rising i k, at.in_range, at.has_value)

    pub one_less_put : All (λ (count : Count). 1 ≤ count.places) counts → (q : ℕ)
        → (count_at counts i).places ≡ q + 1 → 1 ≤ q
        → CountsOneLess counts (set counts i (record { value = number; places = q })) number
    one_less_put positive q e some = record {
      rising = rising_put q;
      positive =
          All-set (λ (count : Count). 1 ≤ count.places) counts i
          (record { value = number; places = q }) some positive;
      places = places_of_put counts number i q at (none_before counts number i rising at) e;
      total =
          omega (
            arith,
            e,
            sum_by-set (λ (count : Count). count.places) counts i
                (record { value = number; places = q }) (record { value = 0; places = 0 })
                at.in_range,
          );
    }
