-- The majority and the least value of what is heard of a stretch of nodes, by the values of the
-- correct ones and after them what the liars say.
use Rattle.std.proofs.Common.{◌≡◌, ℕ, ◌+◌, ◌≤◌, Bool, List, ◌++◌, length, Option, Some, sym, ◌∙◌}
use Rattle.std.proofs.lemmas.List.{length-append}
use Rattle.counting.specs.Places.{places}
use Rattle.counting.specs.Values.{count_of, majority_of, least_above}
use Rattle.counting.specs.Unfinished.{MajorityStays, LeastStays}
use Rattle.counting.proofs.Counts.{count_of-append}
use Rattle.counting.proofs.Unfinished.{same_majority, same_least}
use Rattle.counting.proofs.Parted.{heard_values, true_values, told_values, heard_counts, heard_long}
use Rattle.counting.proofs.Parted.{told_long}

module _ {X : Type 0} (none : X) (told : List X) (p : ℕ → Bool) (w : X → Option ℕ)
    (true_value : ℕ → Option ℕ) (from count k : ℕ) (e : places p from + k ≡ places p (from + count))
    (within : places p (from + count) ≤ length told) where
  heard : List (Option ℕ)
  heard = heard_values none told p w true_value from count

  -- the values of the correct ones, and after them what the liars say
  parted : List (Option ℕ)
  parted =
      true_values none told p w true_value from count ++ told_values none told p w true_value from k

  as_many : (z : Option ℕ) → count_of heard z ≡ count_of parted z
  unfolding heard parted
  as_many z = heard_counts none told p w true_value from count k e within z
      ∙ sym
      (count_of-append (true_values none told p w true_value from count)
      (told_values none told p w true_value from k) z)

  as_long : length heard ≡ length parted
  unfolding heard parted
  as_long = heard_long none told p w true_value from count k e within
      ∙ sym
      (length-append (true_values none told p w true_value from count)
      (told_values none told p w true_value from k))

  pub heard_majority : majority_of (heard_values none told p w true_value from count)
      ≡ majority_of
      (true_values none told p w true_value from count
      ++ told_values none told p w true_value from k)
  unfolding heard parted
  heard_majority = same_majority heard parted as_long (λ z. as_many (Some z))

  pub heard_least : (f : ℕ)
      → least_above f (heard_values none told p w true_value from count)
      ≡ least_above f
      (true_values none told p w true_value from count
      ++ told_values none told p w true_value from k)
  unfolding heard parted
  heard_least f = same_least f heard parted (λ z. as_many (Some z))

  -- a majority that stays, whatever the liars say, is the one heard
  pub known_majority : (majority : Option ℕ)
      → MajorityStays k (true_values none told p w true_value from count) majority
      → majority_of (heard_values none told p w true_value from count) ≡ majority
  known_majority majority stays =
      heard_majority
      ∙ stays (told_values none told p w true_value from k)
      (told_long none told p w true_value from count k e within)

  -- a least value that stays is the one heard
  pub known_least : (f : ℕ) (least : Option ℕ)
      → LeastStays f k (true_values none told p w true_value from count) least
      → least_above f (heard_values none told p w true_value from count) ≡ least
  known_least f least stays =
      heard_least f
      ∙ stays (told_values none told p w true_value from k)
      (told_long none told p w true_value from count k e within)
