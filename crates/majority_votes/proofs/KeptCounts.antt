-- What the kept counts say of the list: its majority, its least value above a number, and what one
-- more value does.
use Rattle.std.proofs.Common.{◌≡◌, ℕ, ◌+◌, ◌-◌, ◌/◌, ◌<◌, ◌≤◌, ◌*◌, List, length, Option, Some}
use Rattle.std.proofs.Common.{None, sym, ap, subst, ◌∙◌, ⊎_elim, arith}
use Rattle.std.proofs.lemmas.Bool.{cases_lt}
use Rattle.counting.specs.Values.{count_of, majority_of, least_above}
use Rattle.counting.proofs.Majority.{majority_is, no_majority}
use Rattle.counting.proofs.Least.{least_from, no_least}
use Rattle.counting.specs.Unfinished.{IsBelow, MajorityStays, LeastStays}
use Rattle.counting.proofs.Unfinished.{majority_stays, no_majority_stays, least_stays}
use Rattle.majority_votes.specs.declared.counts.Count.{Count}
use Rattle.majority_votes.specs.Counts.{count_at, value_at, IsValidTally}
use Rattle.majority_votes.proofs.Lookups.{counted_or_none, places_of_value}
use Rattle.majority_votes.proofs.Edits.{counts_within_total}

module _ (capacity : ℕ) (values : List (Option ℕ)) (counts : List Count)
    (infinities values_capacity counts_capacity : ℕ)
    (kept : IsValidTally capacity values counts infinities values_capacity counts_capacity) where
  -- each count has the places of its number
  pub places_at : (i : ℕ) → i < length counts
      → count_of values (Some (value_at counts i)) ≡ (count_at counts i).places
  places_at i lt = sym (kept.places (value_at counts i)) ∙ places_of_value counts i kept.rising lt

  -- what holds of no places and of each count's places holds of each number's
  pub each_number : (P : ℕ → Type 0) → P 0
      → ((i : ℕ) → i < length counts → P (count_at counts i).places) → (z : ℕ)
      → P (count_of values (Some z))
  each_number P none each z = ⊎_elim
      (λ s. let at = s.1 in
      let e : (count_at counts s.0).places
      ≡ count_of values (Some z) = sym (places_at s.0 at.in_range)
      ∙ ap (λ y. count_of values (Some y)) at.has_value in
      subst P e (each s.0 at.in_range))
      (λ e. subst P (sym e ∙ kept.places z) none)
      (counted_or_none counts z)

  -- a number with more than half of the places is the majority
  pub majority_found : (i : ℕ) → i < length counts → length values / 2 < (count_at counts i).places
      → majority_of values ≡ Some (value_at counts i)
  majority_found i lt more = majority_is values (value_at counts i) (omega (arith, places_at i lt))

  -- if no number has them, there is no majority
  pub majority_absent :
      ((i : ℕ) → i < length counts → (count_at counts i).places ≤ length values / 2)
      → majority_of values ≡ None
  majority_absent few =
      no_majority values
      (each_number (λ n. 2 * n ≤ length values) (omega arith) (λ i lt. omega (arith, few i lt)))

  -- a number below that of a count is that of an earlier one, or of none
  below_count : (f i : ℕ) → i < length counts → ((k : ℕ) → k < i → (count_at counts k).places ≤ f)
      → (z : ℕ) → z < value_at counts i → count_of values (Some z) ≤ f
  below_count f i lt before z less = ⊎_elim
      (λ s. let at = s.1 in
      let e : (count_at counts s.0).places
      ≡ count_of values (Some z) = sym (places_at s.0 at.in_range)
      ∙ ap (λ y. count_of values (Some y)) at.has_value in
      let earlier : s.0 < i = ⊎_elim (λ lt. lt) (λ ge. ⊎_elim
      (λ later. absurd (omega (arith, kept.rising i s.0 later at.in_range, at.has_value)))
      (λ le. let same : s.0 ≡ i = omega arith in
      absurd (omega (arith, ap (value_at counts) same, at.has_value)))
      (cases_lt i s.0)) (cases_lt s.0 i) in
      omega (arith, e, before s.0 earlier))
      (λ none. omega (arith, none, kept.places z))
      (counted_or_none counts z)

  -- the first number with more than f places is the least
  pub least_found : (f i : ℕ) → i < length counts → f < (count_at counts i).places
      → ((k : ℕ) → k < i → (count_at counts k).places ≤ f)
      → least_above f values ≡ Some (value_at counts i)
  least_found f i lt more before =
      least_from f values (value_at counts i) (omega (arith, places_at i lt))
      (below_count f i lt before)

  -- if no number has them, there is no least
  pub least_absent : (f : ℕ) → ((i : ℕ) → i < length counts → (count_at counts i).places ≤ f)
      → least_above f values ≡ None
  least_absent f few = no_least f values (each_number (λ n. n ≤ f) (omega arith) few)

  -- while the list is short of its capacity, there is room for one more count
  pub counts_short : length values < capacity → length counts < counts_capacity
  counts_short short =
      omega (arith, counts_within_total counts kept.positive, kept.total, kept.counts_room)

  -- a number with more than half of all places, those to come counted, is the majority
  pub majority_known : (more i : ℕ) → i < length counts
      → (length values + more) / 2 < (count_at counts i).places
      → MajorityStays more values (Some (value_at counts i))
  majority_known more i lt h =
      majority_stays more values (value_at counts i) (omega (arith, places_at i lt))

  -- if none can come to them, there is none
  pub no_majority_known : (more most : ℕ)
      → ((i : ℕ) → i < length counts → (count_at counts i).places ≤ most)
      → most + more ≤ (length values + more) / 2 → MajorityStays more values None
  no_majority_known more most few h =
      no_majority_stays more values
      (each_number (λ n. 2 * (n + more) ≤ length values + more) (omega arith)
      (λ i lt. omega (arith, few i lt)))

  -- if no count before that of the least can come above f, the least stays
  pub least_known : (f more i : ℕ) → more ≤ f → i < length counts → f < (count_at counts i).places
      → ((k : ℕ) → k < i → (count_at counts k).places ≤ f - more)
      → LeastStays f more values (least_above f values)
  least_known f more i fit lt h before =
      let is : least_above f values
      ≡ Some (value_at counts i) = least_found f i lt h (λ k kl. omega (arith, before k kl)) in
      least_stays f more values
      (subst (λ (o : Option ℕ). (z : ℕ) → IsBelow z o → count_of values (Some z) + more ≤ f)
      (sym is) (λ z less. omega (arith, below_count (f - more) i lt before z less)))

  -- the same if there is no least
  pub no_least_known : (f more : ℕ) → more ≤ f
      → ((i : ℕ) → i < length counts → (count_at counts i).places ≤ f - more)
      → LeastStays f more values (least_above f values)
  no_least_known f more fit few =
      least_stays f more values
      (λ z below. omega (arith, each_number (λ n. n ≤ f - more) (omega arith) few z))
