-- What is written of counted runs is what the sweep's text has of its eras.
use Rattle.std.proofs.Common.{◌≡◌, ℕ, zero, suc, ◌+◌, ◌-◌, ◌<◌, ◌≤◌, List, ◌++◌, length, map}
use Rattle.std.proofs.Common.{get_or, Some, None, refl, sym, ap, ap₂, ◌∙◌, arith}
use Rattle.std.specs.List.{flat_map, range_with_len}
use Rattle.std.proofs.lemmas.List.Folds.{flat_map-map}
use Rattle.std.proofs.lemmas.List.FromFn.{fill_by_all, length-range_with_len, get_or-range_with_len}
use Rattle.std.proofs.lemmas.List.FromFn.{length-map-range_with_len, get_or-map-range_with_len}
use Rattle.adversary_script.specs.Scripts.{Script}
use Rattle.adversary_script.specs.Eras.{first_of_era, end_of_era}
use Rattle.sweep.specs.Sweeps.{Locks, lock_with, found_at}
use Rattle.sweep.specs.SweepTexts.{line_of, lock_line, era_lines, lines_of_eras}
use Rattle.sweep.specs.Tallies.{EraRuns, AreOfEra, AreTallied, nothing, no_runs, place_line}
use Rattle.sweep.specs.Tallies.{locked_text, runs_text}
use Rattle.sweep.specs.declared.tallies.Found.{Found}

-- texts of numbers below n that are the same one by one
same_texts : (f g : ℕ → List ℕ) (a n : ℕ) → ((k : ℕ) → a ≤ k → k < a + n → f k ≡ g k)
    → flat_map f (range_with_len a n) ≡ flat_map g (range_with_len a n)
same_texts f g a zero same = refl
same_texts f g a (suc n) same =
    ap₂ (λ (x y : List ℕ). x ++ y) (same a (omega arith) (omega arith))
    (same_texts f g (a + 1) n (λ k le lt. same k (omega (arith, le)) (omega (arith, lt))))

-- numbers from a on, by their places
by_place : (a n : ℕ) → range_with_len a n ≡ map (λ k. a + k) (range_with_len 0 n)
by_place a n = fill_by_all (λ k. a + k) (range_with_len a n) n 0 (length-range_with_len a n)
    (λ k lt. get_or-range_with_len a n k 0 lt)

-- the line of a place, from what is known of it
pub place_written : (runs : EraRuns) (k first t : ℕ) (found : Found) → first ≡ runs.first
    → t ≡ runs.first + k → found ≡ get_or runs.locked k nothing
    → line_of first (Some t) found ≡ place_line runs k
place_written runs k first t found at here is =
    ap₂ (λ (a u : ℕ). line_of a (Some u) found) at here
    ∙ ap (λ (f : Found). line_of runs.first (Some (runs.first + k)) f) is

module _ (locks : Locks) (script : Script) (seeds : List ℕ) where
  -- the lines of an era
  era_text : (j : ℕ) (runs : EraRuns) → AreOfEra locks script seeds j runs
      → runs_text runs ≡ era_lines locks script seeds j
  era_text j runs are =
      let first : ℕ = first_of_era script j in
      let size : ℕ = end_of_era script j - first in
      let found : ℕ → Found = λ k. found_at (lock_with locks script j) seeds (Some (first + k)) in
      let line : ℕ → List ℕ = λ t. lock_line locks script seeds j (Some t) in
      let long : length runs.locked ≡ size =
      ap (λ (xs : List Found). length xs) are.locked ∙ length-map-range_with_len found 0 size in
      let one : (k : ℕ) → 0 ≤ k → k < 0 + size → place_line runs k ≡ line (first + k) = λ k le lt.
      ap (λ (a : ℕ). line_of a (Some (a + k)) (get_or runs.locked k nothing)) are.from
      ∙ ap (λ (f : Found). line_of first (Some (first + k)) f)
      (ap (λ (xs : List Found). get_or xs k nothing) are.locked
      ∙ get_or-map-range_with_len found 0 size k k nothing (omega (arith, lt)) (omega arith)) in
      let locked : locked_text runs ≡ flat_map line (range_with_len first size) =
      ap (λ (n : ℕ). flat_map (place_line runs) (range_with_len 0 n)) long
      ∙ same_texts (place_line runs) (λ k. line (first + k)) 0 size one
      ∙ sym (flat_map-map line (λ (k : ℕ). first + k) (range_with_len 0 size))
      ∙ ap (flat_map line) (sym (by_place first size)) in
      ap₂ (λ (x y : List ℕ). x ++ y) locked
      (ap₂ (λ (a : ℕ) (f : Found). line_of a None f) are.from are.unlocked)

  -- the lines of all eras
  pub tally_text : (tally : List EraRuns) → AreTallied locks script seeds tally
      → flat_map runs_text tally ≡ lines_of_eras locks script seeds
  tally_text tally are =
      let n : ℕ = length script.eras + 1 in
      let at : ℕ → EraRuns = λ j. get_or tally j no_runs in
      let listed : tally ≡ map at (range_with_len 0 n) =
      fill_by_all at tally n no_runs are.size (λ k lt. refl) in
      ap (flat_map runs_text) listed ∙ flat_map-map runs_text at (range_with_len 0 n)
      ∙ same_texts (λ j. runs_text (at j)) (era_lines locks script seeds) 0 n
      (λ k le lt. era_text k (at k) (are.each k (omega (arith, lt))))
