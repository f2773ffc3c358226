-- One more run.
use Rattle.std.proofs.Common.{◌≡◌, ℕ, ◌+◌, ◌-◌, ◌<◌, ◌^◌, inl, inr, List, [], ◌∷◌, ◌++◌, length}
use Rattle.std.proofs.Common.{map, min, set, get_or, cond, Option, Some, None, Bool, true, false}
use Rattle.std.proofs.Common.{refl, sym, ap, ap₂, ◌∙◌, arith}
use Rattle.std.proofs.Math.Path.{fun_ext}
use Rattle.std.specs.List.{count_by, find, range_with_len}
use Rattle.std.specs.Option.{option_or}
use Rattle.std.proofs.lemmas.Bool.{cases_eq, eq-eqb, ne_eqb}
use Rattle.std.proofs.lemmas.List.{length-set, get_or-set_same, get_or-set_other}
use Rattle.std.proofs.lemmas.List.Folds.{find-append}
use Rattle.std.proofs.lemmas.List.FromFn.{fill_by_all, length-map-range_with_len}
use Rattle.std.proofs.lemmas.List.FromFn.{get_or-map-range_with_len}
use Rattle.std.proofs.lemmas.List.Sums.{sum_by-append, count_by-le-length}
use Rattle.sweep.specs.Sweeps.{found_of, found_at}
use Rattle.sweep.specs.Tallies.{EraRuns, AreRuns, IsWithin, nothing, with_run, with_lock}
use Rattle.sweep.specs.declared.tallies.Found.{Found}

abbrev found : (runs : ℕ) → (seed : Option ℕ) → Found
found runs seed = record { runs = runs; seed = seed }

-- a list of places of which one is written anew
module _ {X : Type 0} (f g : ℕ → X) (n i : ℕ) (d : X) where
  written : i < n → ((k : ℕ) → (k ≡ i → ⊥) → g k ≡ f k)
      → set (map f (range_with_len 0 n)) i (g i) ≡ map g (range_with_len 0 n)
  written inside same =
      let long = length-map-range_with_len f 0 n in
      fill_by_all g (set (map f (range_with_len 0 n)) i (g i)) n d
      (length-set (map f (range_with_len 0 n)) i (g i) ∙ long) (λ k lt. elim (cases_eq k i) [
        | inl is ↦ ap (λ j. get_or (set (map f (range_with_len 0 n)) i (g i)) j d) is
            ∙ get_or-set_same (map f (range_with_len 0 n)) i (g i) d (omega (arith, inside, long))
            ∙ sym (ap g is)
        | inr other ↦ get_or-set_other (map f (range_with_len 0 n)) i k (g i) d other
            ∙ get_or-map-range_with_len f 0 n k k d lt (omega arith)
            ∙ sym (same k other)
      ])

module _ (p : ℕ → Bool) (seeds : List ℕ) (seed : ℕ) where
  counted : (b : Bool) → p seed ≡ b
      → count_by p (seeds ++ seed ∷ []) ≡ count_by p seeds + cond b 1 0
  counted b is =
      let parts : count_by p (seeds ++ seed ∷ []) ≡ count_by p seeds + cond (p seed) 1 0 =
      omega (arith, sum_by-append (λ x. cond (p x) 1 0) seeds (seed ∷ [])) in
      parts ∙ ap (λ (b : Bool). count_by p seeds + cond b 1 0) is

  first : (b : Bool) → p seed ≡ b
      → find p (seeds ++ seed ∷ []) ≡ option_or (find p seeds) (cond b (Some seed) None)
  first b is = find-append p seeds (seed ∷ [])
      ∙ ap (λ (b : Bool). option_or (find p seeds) (cond b (Some seed) None)) is

  or_none : (o : Option ℕ) → option_or o None ≡ o
  or_none None = refl
  or_none (Some x) = refl

  -- a run that passes is one more, and its number the least if there was none
  pub found_more : length seeds + 1 < 2 ^ 64 → p seed ≡ true
      → found_of p (seeds ++ seed ∷ []) ≡ with_run (found_of p seeds) seed
  found_more few is =
      let most = count_by-le-length p seeds in
      let runs : count_by p (seeds ++ seed ∷ []) ≡ min (count_by p seeds + 1) (2 ^ 64 - 1) =
      omega (arith, counted true is, most, few) in
      ap₂ found runs (first true is)

  -- and one that does not changes nothing
  pub found_same : p seed ≡ false → found_of p (seeds ++ seed ∷ []) ≡ found_of p seeds
  found_same is =
      let runs : count_by p (seeds ++ seed ∷ []) ≡ count_by p seeds =
      omega (arith, counted false is) in
      ap₂ found runs (first false is ∙ or_none (find p seeds))

module _ (lock : ℕ → Option ℕ) (from size : ℕ) (seeds : List ℕ) (seed : ℕ)
    (few : length seeds + 1 < 2 ^ 64) where
  abbrev before : ℕ → Found
  before k = found_at lock seeds (Some (from + k))

  abbrev behind : ℕ → Found
  behind k = found_at lock (seeds ++ seed ∷ []) (Some (from + k))

  -- a run without a first locked configuration
  none_noted : lock seed ≡ None
      → (found_at lock (seeds ++ seed ∷ []) None ≡ with_run (found_at lock seeds None) seed)
      × ((k : ℕ) → behind k ≡ before k)
  none_noted is = (
    found_more _ seeds seed few (rw is refl),
    λ k. found_same _ seeds seed (rw is refl),
  )

  -- and one that has one
  some_noted : (t : ℕ) → lock seed ≡ Some t
      → (found_at lock (seeds ++ seed ∷ []) None ≡ found_at lock seeds None)
      × ((k : ℕ) → (from + k ≡ t) → behind k ≡ with_run (before k) seed)
      × ((k : ℕ) → (from + k ≡ t → ⊥) → behind k ≡ before k)
  some_noted t is = (
    found_same _ seeds seed (rw is refl),
    λ k here. found_more _ seeds seed few (rw is (eq-eqb t (from + k) (sym here))),
    λ k other. found_same _ seeds seed (rw is (ne_eqb t (from + k) (λ e. other (sym e)))),
  )

  noted : (locked : Option ℕ) (runs : EraRuns) → lock seed ≡ locked → IsWithin runs locked
      → AreRuns lock from size seeds runs
      → AreRuns lock from size (seeds ++ seed ∷ []) (with_lock runs locked seed)
  noted None runs is inside are =
      let now = none_noted is in
      record {
        from = are.from;
        locked = are.locked ∙ ap (λ (f : ℕ → Found). map f (range_with_len 0 size))
            (fun_ext (λ k. sym (now.1 k)));
        unlocked = ap (λ (f : Found). with_run f seed) are.unlocked ∙ sym now.0;
      }
  noted (Some t) runs is inside are =
      let now = some_noted t is in
      let long : length runs.locked ≡ size =
      ap (λ (xs : List Found). length xs) are.locked ∙ length-map-range_with_len before 0 size in
      let place : ℕ = t - from in
      let lt : place < size = omega (arith, inside.0, inside.1, long, are.from) in
      let here : from + place ≡ t = omega (arith, inside.0, are.from) in
      let old : get_or runs.locked place nothing ≡ before place =
      ap (λ (xs : List Found). get_or xs place nothing) are.locked
      ∙ get_or-map-range_with_len before 0 size place place nothing lt (omega arith) in
      record {
        from = are.from;
        locked = ap (λ (i : ℕ). set runs.locked i (with_run (get_or runs.locked i nothing) seed))
            (ap (λ (a : ℕ). t - a) are.from)
            ∙ ap₂ (λ (xs : List Found) (f : Found). set xs place f) are.locked
            (ap (λ (f : Found). with_run f seed) old ∙ sym (now.1 place here))
            ∙ written before behind size place nothing lt
            (λ k other. now.2 k (λ e. other (omega (arith, e, here))));
        unlocked = are.unlocked ∙ sym now.0;
      }

-- a run with its first locked configuration is one more run of an era
pub noted_run : (runs now : EraRuns) (locked : Option ℕ) (seed : ℕ)
    → now ≡ with_lock runs locked seed
    → IsWithin runs locked → (lock : ℕ → Option ℕ) (first size : ℕ) (seeds : List ℕ)
    → length seeds + 1 < 2 ^ 64 → lock seed ≡ locked → AreRuns lock first size seeds runs
    → AreRuns lock first size (seeds ++ seed ∷ []) now
noted_run runs now locked seed is inside lock first size seeds few known are =
    rw is (noted lock first size seeds seed few locked runs known inside are)

-- and the era begins where it did, and has as many configurations
pub same_first : (runs now : EraRuns) (locked : Option ℕ) (seed : ℕ)
    → now ≡ with_lock runs locked seed → now.first ≡ runs.first
same_first runs now None seed is = ap (λ (r : EraRuns). r.first) is
same_first runs now (Some t) seed is = ap (λ (r : EraRuns). r.first) is

pub same_size : (runs now : EraRuns) (locked : Option ℕ) (seed : ℕ)
    → now ≡ with_lock runs locked seed → length now.locked ≡ length runs.locked
same_size runs now None seed is = ap (λ (r : EraRuns). length r.locked) is
same_size runs now (Some t) seed is = ap (λ (r : EraRuns). length r.locked) is
    ∙ length-set runs.locked (t - runs.first)
    (with_run (get_or runs.locked (t - runs.first) nothing) seed)
