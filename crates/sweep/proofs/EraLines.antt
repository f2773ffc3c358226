-- The lines of an era, as values: what they say, and their text.
use Rattle.std.proofs.Common.{◌≡◌, ℕ, zero, suc, ◌+◌, ◌<◌, ◌≤◌, List, [], ◌∷◌, ◌++◌, length, All}
use Rattle.std.proofs.Common.{Bool, true, false, cond, Option, Some, None, sum_by, count_by, find}
use Rattle.std.proofs.Common.{refl, ap₂, ◌∙◌, arith}
use Rattle.std.proofs.Common.{ap}
use Rattle.std.specs.Prelude.{nat_eq, IfSome}
use Rattle.std.specs.List.{flat_map, range_with_len}
use Rattle.std.specs.Option.{option_eq}
use Rattle.std.proofs.lemmas.List.{append-nil}
use Rattle.std.proofs.lemmas.List.Concat.{flat_map-append}
use Rattle.std.proofs.lemmas.List.Elements.{All-nil, All-cons, All-append}
use Rattle.std.proofs.lemmas.List.Sums.{sum_by-cons, sum_by-append}
use Rattle.sweep.specs.Laws.{EraLine, line_text, is_of_line}
use Rattle.sweep.specs.Sweeps.{found_at}
use Rattle.sweep.specs.SweepTexts.{found_line, line_if, line_of}
use Rattle.sweep.proofs.CountedOnce.{count_at, counts, all_counted}

-- how much one counts
abbrev counts_for : Bool → ℕ
counts_for passes = cond passes 1 0

-- if no number passes, none is counted
none_behind : (p : ℕ → Bool) (seed : ℕ) (seeds : List ℕ) (b : Bool) → p seed ≡ b
    → (find p seeds ≡ None → count_by p seeds ≡ 0) → cond b (Some seed) (find p seeds) ≡ None
    → count_by p (seed ∷ seeds) ≡ 0
none_behind p seed seeds true is rest none = absurd (cc)
none_behind p seed seeds false is rest none =
    let here : counts_for (p seed) ≡ 0 = ap counts_for is in
    let behind : count_by p seeds ≡ 0 = rest none in
    omega (arith, sum_by-cons (λ s. counts_for (p s)) seed seeds, here, behind)

none_counted : (p : ℕ → Bool) (seeds : List ℕ) → find p seeds ≡ None → count_by p seeds ≡ 0
none_counted p [] none = refl
none_counted p (seed ∷ seeds) none =
    none_behind p seed seeds (p seed) refl (none_counted p seeds) none

-- the line of so many runs, if there is a first one
abbrev pub line_with : Option ℕ → (runs : ℕ) → (seed : Option ℕ) → List EraLine
line_with locked runs None = []
line_with locked runs (Some seed) = record { locked = locked; runs = runs; seed = seed } ∷ []

text_with : (first : ℕ) (locked : Option ℕ) (runs : ℕ) (seed : Option ℕ)
    → flat_map (line_text first) (line_with locked runs seed) ≡ line_if first locked runs seed
text_with first locked runs None = refl
text_with first locked runs (Some seed) = append-nil (found_line first locked runs seed)

module _ (lock : ℕ → Option ℕ) (seeds : List ℕ) where
  -- the run of a number has this first locked configuration
  abbrev pub passes : Option ℕ → ℕ → Bool
  passes locked seed = option_eq nat_eq (lock seed) locked

  abbrev pub line_for : Option ℕ → List EraLine
  line_for locked = line_with locked (count_at lock seeds locked) (find (passes locked) seeds)

  -- the lines of n configurations from a on
  abbrev pub lines_from : (a n : ℕ) → List EraLine
  lines_from a n = flat_map (λ t. line_for (Some t)) (range_with_len a n)

  -- and that of none
  abbrev pub lines_in : (a n : ℕ) → List EraLine
  lines_in a n = lines_from a n ++ line_for None

  -- ---- their text

  text_from : (first a n : ℕ) → flat_map (line_text first) (lines_from a n)
      ≡ flat_map (λ t. line_of first (Some t) (found_at lock seeds (Some t))) (range_with_len a n)
  text_from first a zero = refl
  text_from first a (suc n) =
      flat_map-append (line_text first) (line_for (Some a)) (lines_from (a + 1) n)
      ∙ ap₂ (λ (x y : List ℕ). x ++ y)
      (text_with first (Some a) (count_at lock seeds (Some a)) (find (passes (Some a)) seeds))
      (text_from first (a + 1) n)

  pub text_in : (first a n : ℕ) → flat_map (line_text first) (lines_in a n)
      ≡ flat_map (λ t. line_of first (Some t) (found_at lock seeds (Some t))) (range_with_len a n)
      ++ line_of first None (found_at lock seeds None)
  text_in first a n =
      flat_map-append (line_text first) (lines_from a n) (line_for None)
      ∙ ap₂ (λ (x y : List ℕ). x ++ y) (text_from first a n)
      (text_with first None (count_at lock seeds None) (find (passes None) seeds))

  -- ---- their runs

  abbrev runs_of : List EraLine → ℕ
  runs_of lines = sum_by (λ line. line.runs) lines

  runs_with : (locked : Option ℕ) (seed : Option ℕ) → find (passes locked) seeds ≡ seed
      → runs_of (line_with locked (count_at lock seeds locked) seed) ≡ count_at lock seeds locked
  runs_with locked None is =
      let none = none_counted (passes locked) seeds is in omega (arith, none)
  runs_with locked (Some seed) is = omega arith

  runs_from : (a n : ℕ) → runs_of (lines_from a n) ≡ counts lock seeds a n
  runs_from a zero = refl
  runs_from a (suc n) = omega (
    arith,
    sum_by-append (λ (line : EraLine). line.runs) (line_for (Some a)) (lines_from (a + 1) n),
    runs_with (Some a) (find (passes (Some a)) seeds) refl,
    runs_from (a + 1) n,
    sum_by-cons (λ t. count_at lock seeds (Some t)) a (range_with_len (a + 1) n),
  )

  pub runs_in : (a n : ℕ) → ((seed : ℕ) → IfSome (lock seed) (λ t. (a ≤ t) × (t < a + n)))
      → runs_of (lines_in a n) ≡ length seeds
  runs_in a n among = omega (
    arith,
    sum_by-append (λ (line : EraLine). line.runs) (lines_from a n) (line_for None),
    runs_with None (find (passes None) seeds) refl,
    runs_from a n,
    all_counted lock seeds a n among,
  )

  -- ---- what holds of each

  module _ (P : EraLine → Type 0) (each : (locked : Option ℕ) → All P (line_for locked)) where
    all_from : (a n : ℕ) → All P (lines_from a n)
    all_from a zero = All-nil P
    all_from a (suc n) =
        All-append P (line_for (Some a)) (lines_from (a + 1) n) (each (Some a)) (all_from (a + 1) n)

    all_in : (a n : ℕ) → All P (lines_in a n)
    all_in a n = All-append P (lines_from a n) (line_for None) (all_from a n) (each None)

  abbrev HasRuns : EraLine → Type 0
  HasRuns line = line.runs ≡ count_by (is_of_line lock line) seeds

  abbrev HasLeast : EraLine → Type 0
  HasLeast line = find (is_of_line lock line) seeds ≡ Some line.seed

  has_runs : (locked : Option ℕ) (seed : Option ℕ)
      → All HasRuns (line_with locked (count_at lock seeds locked) seed)
  has_runs locked None = All-nil HasRuns
  has_runs locked (Some seed) =
      let line : EraLine =
      record { locked = locked; runs = count_at lock seeds locked; seed = seed } in
      All-cons HasRuns line [] refl (All-nil HasRuns)

  has_least : (locked : Option ℕ) (seed : Option ℕ) → find (passes locked) seeds ≡ seed
      → All HasLeast (line_with locked (count_at lock seeds locked) seed)
  has_least locked None is = All-nil HasLeast
  has_least locked (Some seed) is =
      let line : EraLine =
      record { locked = locked; runs = count_at lock seeds locked; seed = seed } in
      All-cons HasLeast line [] is (All-nil HasLeast)

  pub all_runs : (a n : ℕ) → All HasRuns (lines_in a n)
  all_runs = all_in HasRuns (λ locked. has_runs locked (find (passes locked) seeds))

  pub all_least : (a n : ℕ) → All HasLeast (lines_in a n)
  all_least = all_in HasLeast (λ locked. has_least locked (find (passes locked) seeds) refl)
