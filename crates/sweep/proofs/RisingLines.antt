-- The lines of an era rise: each configuration in its place, and none after all of them.
use Rattle.std.proofs.Common.{◌≡◌, ℕ, zero, suc, ◌+◌, ◌<◌, ◌≤◌, List, [], ◌∷◌, ◌++◌, All}
use Rattle.std.proofs.Common.{map, get_or, find, Option, Some, None, sym, subst, arith}
use Rattle.std.proofs.Common.{append_assoc}
use Rattle.std.specs.Prelude.{unwrap_or}
use Rattle.std.specs.List.Sorted.{IsStrictlyIncreasing}
use Rattle.std.proofs.lemmas.List.Elements.{All-nil, All-cons, All-append, All-map}
use Rattle.sweep.specs.Laws.{EraLine, place_of}
use Rattle.sweep.proofs.CountedOnce.{count_at}
use Rattle.sweep.proofs.EraLines.{line_with, passes, line_for, lines_from, lines_in}

-- numbers that rise, with one before them that is less than all
rise_more : (x : ℕ) (xs : List ℕ) → All (λ y. x < y) xs → IsStrictlyIncreasing xs
    → IsStrictlyIncreasing (x ∷ xs)
rise_more x xs above rising zero lt = above 0 0 (omega arith)
rise_more x xs above rising (suc k) lt =
    let next : suc k + 1 ≡ suc (k + 1) = omega arith in
    subst (λ m. get_or (x ∷ xs) (suc k) 0 < get_or (x ∷ xs) m 0) (sym next)
    (rising k (omega arith))

module _ (end : ℕ) where
  abbrev places : List EraLine → List ℕ
  places lines = map (place_of end) lines

  -- lines behind a number
  abbrev IsAbove : (low : ℕ) → EraLine → Type 0
  IsAbove low line = low < place_of end line

  abbrev AreAbove : (low : ℕ) → List EraLine → Type 0
  AreAbove low lines = All (IsAbove low) lines

  one_above : (low : ℕ) (locked : Option ℕ) (runs : ℕ) (seed : Option ℕ)
      → low < unwrap_or locked end → AreAbove low (line_with locked runs seed)
  one_above low locked runs None above = All-nil (IsAbove low)
  one_above low locked runs (Some seed) above =
      let line : EraLine = record { locked = locked; runs = runs; seed = seed } in
      All-cons (IsAbove low) line [] above (All-nil (IsAbove low))

  -- one line, if it is there, and those behind it
  one_before : (a runs : ℕ) (seed : Option ℕ) (rest : List EraLine) → AreAbove a rest
      → IsStrictlyIncreasing (places rest)
      → IsStrictlyIncreasing (places (line_with (Some a) runs seed ++ rest))
  one_before a runs None rest above rising = rising
  one_before a runs (Some seed) rest above rising =
      rise_more a (places rest) (All-map (λ y. a < y) (place_of end) rest above) rising

  only_one : (locked : Option ℕ) (runs : ℕ) (seed : Option ℕ)
      → IsStrictlyIncreasing (places (line_with locked runs seed))
  only_one locked runs None k lt = absurd (omega arith)
  only_one locked runs (Some seed) k lt = absurd (omega arith)

  module _ (lock : ℕ → Option ℕ) (seeds : List ℕ) where
    above_from : (low a n : ℕ) → low < a → AreAbove low (lines_from lock seeds a n)
    above_from low a zero lt = All-nil (IsAbove low)
    above_from low a (suc n) lt =
        All-append (IsAbove low) (line_for lock seeds (Some a))
        (lines_from lock seeds (a + 1) n)
        (one_above low (Some a) (count_at lock seeds (Some a))
        (find (passes lock seeds (Some a)) seeds) lt)
        (above_from low (a + 1) n (omega arith))

    above_in : (low a n : ℕ) → low < a → low < end → AreAbove low (lines_in lock seeds a n)
    above_in low a n lt before =
        All-append (IsAbove low) (lines_from lock seeds a n)
        (line_for lock seeds None) (above_from low a n lt)
        (one_above low None (count_at lock seeds None) (find (passes lock seeds None) seeds) before)

    pub rising_in : (a n : ℕ) → a + n ≤ end
        → IsStrictlyIncreasing (places (lines_in lock seeds a n))
    rising_in a zero within =
        only_one None (count_at lock seeds None) (find (passes lock seeds None) seeds)
    rising_in a (suc n) within =
        subst (λ (lines : List EraLine). IsStrictlyIncreasing (places lines))
        (sym (append_assoc (line_for lock seeds (Some a)) (lines_from lock seeds (a + 1) n)
        (line_for lock seeds None)))
        (one_before a (count_at lock seeds (Some a)) (find (passes lock seeds (Some a)) seeds)
        (lines_in lock seeds (a + 1) n)
        (above_in a (a + 1) n (omega arith) (omega arith))
        (rising_in (a + 1) n (omega arith)))
