-- A number that is read of all correct nodes of a stretch.
use Rattle.std.proofs.Common.{◌≡◌, ℕ, zero, suc, ◌+◌, ◌*◌, ◌<◌, ◌≤◌, Bool, true, false, not, cond}
use Rattle.std.proofs.Common.{nat_eq, ◌∷◌, map, length, Option, Some, refl, ap, ◌∙◌, arith}
use Rattle.std.specs.List.{filter, range_with_len}
use Rattle.std.specs.Option.{option_eq}
use Rattle.std.proofs.lemmas.Bool.{false≢true}
use Rattle.counting.specs.Values.{count_of}
use Rattle.counting.specs.Unfinished.{MajorityStays}
use Rattle.counting.proofs.Counts.{count_of-cons, value_itself}
use Rattle.counting.proofs.Unfinished.{majority_stays}
use Rattle.shared_board.specs.Senders.{Sent, is_liar, output_of, numbers_of}

not_true : (b : Bool) → not b ≡ true → b ≡ false
not_true false e = refl
not_true true e = absurd (false≢true e)

module _ (q : ℕ → Bool) (f : ℕ → Option ℕ) (z : Option ℕ) where
  -- if all that pass have one value, it has all their places
  all_places : (first count : ℕ)
      → ((u : ℕ) → first ≤ u → u < first + count → q u ≡ true → f u ≡ z)
      → length (map f (filter q (range_with_len first count)))
      ≤ count_of (map f (filter q (range_with_len first count))) z
  all_places first zero same = omega arith
  all_places first (suc count) same = next (q first) refl
      (all_places (first + 1) count (λ u le lt pass. same u (omega arith) (omega arith) pass))
    where
      next : (b : Bool) → q first ≡ b
          → length (map f (filter q (range_with_len (first + 1) count)))
          ≤ count_of (map f (filter q (range_with_len (first + 1) count))) z
          → length (map f (cond b (first ∷ filter q (range_with_len (first + 1) count))
          (filter q (range_with_len (first + 1) count))))
          ≤ count_of (map f (cond b (first ∷ filter q (range_with_len (first + 1) count))
          (filter q (range_with_len (first + 1) count)))) z
      next false e h = h
      next true e h = omega (
        arith,
        h,
        count_of-cons (f first) (map f (filter q (range_with_len (first + 1) count))) z,
        ap {B = ℕ} (λ b. cond b 1 0)
            (ap (option_eq nat_eq z) (same first (omega arith) (omega arith) e)
            ∙ value_itself z),
      )

-- one number that is read of all correct nodes is that of most, if these are more than the liars
pub common_stays : (s : Sent) (reads : ℕ → ℕ) (first count output liars : ℕ)
    → length (numbers_of s reads first count) + liars ≡ count → 2 * liars < count
    → ((u : ℕ) → first ≤ u → u < first + count → is_liar s u ≡ false → output_of s u ≡ output)
    → MajorityStays liars (numbers_of s reads first count) (Some (reads output))
common_stays s reads first count output liars all few same =
    majority_stays liars (numbers_of s reads first count) (reads output) (omega (
      arith,
      all,
      few,
      all_places (λ u. not (is_liar s u)) (λ u. Some (reads (output_of s u)))
          (Some (reads output)) first count
          (λ u le lt ok. ap (λ o. Some (reads o)) (same u le lt (not_true (is_liar s u) ok))),
    ))
