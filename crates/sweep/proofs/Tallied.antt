-- The runs of all eras, one run more.
use Rattle.std.proofs.Common.{◌≡◌, ℕ, ◌+◌, ◌-◌, ◌<◌, ◌≤◌, ◌^◌, inl, inr, List, [], ◌∷◌, ◌++◌}
use Rattle.std.proofs.Common.{length, map, replicate, get_or, set, Option, refl}
use Rattle.std.proofs.Common.{sym, ap, ap₂, ◌∙◌, subst, arith}
use Rattle.std.specs.List.{range_with_len}
use Rattle.std.proofs.lemmas.Bool.{cases_eq}
use Rattle.std.proofs.lemmas.List.{length-set, length-replicate, get_or-replicate}
use Rattle.std.proofs.lemmas.List.{get_or-set_same, get_or-set_other}
use Rattle.std.proofs.lemmas.List.FromFn.{fill_by_all, map-range_with_len_more}
use Rattle.std.proofs.lemmas.List.FromFn.{length-map-range_with_len, get_or-map-range_with_len}
use Rattle.adversary_script.specs.Scripts.{Script, IsScript}
use Rattle.adversary_script.specs.Eras.{first_of_era, end_of_era}
use Rattle.machine_runner.proofs.Firsts.{era_some}
use Rattle.sweep.specs.Keys.{keyed}
use Rattle.sweep.specs.Sweeps.{Locks, lock_with}
use Rattle.sweep.specs.Tallies.{EraRuns, AreRuns, AreOfEra, AreTallied, HasRoom, nothing}
use Rattle.sweep.specs.Tallies.{no_runs}

-- the runs of era j before the first one
abbrev pub begun_runs : Script → (j : ℕ) → EraRuns
begun_runs script j = record {
  first = first_of_era script j;
  locked = replicate (end_of_era script j - first_of_era script j) nothing;
  unlocked = nothing;
}

module _ (script : Script) where
  abbrev pub all_begun : (n : ℕ) → List EraRuns
  all_begun n = map (begun_runs script) (range_with_len 0 n)

  -- one era more
  pub begun_more : (n first size : ℕ) (items now : List EraRuns) (era : EraRuns)
      → first ≡ first_of_era script n → size ≡ end_of_era script n - first_of_era script n
      → era ≡ record { first = first; locked = replicate size nothing; unlocked = nothing }
      → items ≡ all_begun n → now ≡ items ++ era ∷ [] → now ≡ all_begun (n + 1)
  begun_more n first size items now era at long is before pushed =
      let begun : era ≡ begun_runs script n = is
      ∙ ap₂ (λ (a k : ℕ). let runs : EraRuns =
      record { first = a; locked = replicate k nothing; unlocked = nothing } in runs) at long in
      pushed ∙ ap₂ (λ (xs : List EraRuns) (e : EraRuns). xs ++ e ∷ []) before begun
      ∙ sym (map-range_with_len_more (begun_runs script) 0 n n (omega arith))

  begun_at : (tally : List EraRuns) → tally ≡ all_begun (length script.eras + 1) → (j : ℕ)
      → j ≤ length script.eras → get_or tally j no_runs ≡ begun_runs script j
  begun_at tally is j among = ap (λ (t : List EraRuns). get_or t j no_runs) is
      ∙ get_or-map-range_with_len (begun_runs script) 0 (length script.eras + 1) j j no_runs
      (omega (arith, among)) (omega arith)

  begun_size : (tally : List EraRuns) → tally ≡ all_begun (length script.eras + 1)
      → length tally ≡ length script.eras + 1
  begun_size tally is = ap (λ (t : List EraRuns). length t) is
      ∙ length-map-range_with_len (begun_runs script) 0 (length script.eras + 1)

  -- of no key there are no runs
  none_tallied : (locks : Locks) (j : ℕ) → AreOfEra locks script [] j (begun_runs script j)
  none_tallied locks j =
      let size : ℕ = end_of_era script j - first_of_era script j in
      record {
        from = refl;
        locked = fill_by_all (λ k. nothing) (replicate size nothing) size nothing
            (length-replicate size nothing) (λ k lt. get_or-replicate size k nothing nothing lt);
        unlocked = refl;
      }

  pub all_none : (tally : List EraRuns) → tally ≡ all_begun (length script.eras + 1)
      → (locks : Locks) → AreTallied locks script [] tally
  all_none tally is locks = record {
    size = begun_size tally is;
    each = λ j among. subst (AreOfEra locks script [] j) (sym (begun_at tally is j among))
        (none_tallied locks j);
  }

  pub all_roomy : (tally : List EraRuns) → tally ≡ all_begun (length script.eras + 1)
      → IsScript script → HasRoom script tally
  all_roomy tally is whole = record {
    size = begun_size tally is;
    first = λ j among. ap (λ (r : EraRuns). r.first) (begun_at tally is j among);
    end = λ j among.
        let size : ℕ = end_of_era script j - first_of_era script j in
        let some = era_some script whole j among in
        let long = length-replicate size nothing in
        ap (λ (r : EraRuns). r.first + length r.locked) (begun_at tally is j among)
        ∙ omega (arith, long, some);
  }

module _ (script : Script) (tally : List EraRuns) (j : ℕ) (old now : EraRuns)
    (here : j < length tally) (is : old ≡ get_or tally j no_runs) where
  placed : (k : ℕ) (P : EraRuns → Type 0) → (k ≡ j → P now)
      → ((k ≡ j → ⊥) → P (get_or tally k no_runs))
      → P (get_or (set tally j now) k no_runs)
  placed k P same other = elim (cases_eq k j) [
    | inl e ↦ subst P (sym (ap (λ (i : ℕ). get_or (set tally j now) i no_runs) e
        ∙ get_or-set_same tally j now no_runs here)) (same e)
    | inr e ↦ subst P (sym (get_or-set_other tally j k now no_runs e)) (other e)
  ]

  -- the room stays
  pub room_more : HasRoom script tally → now.first ≡ old.first
      → length now.locked ≡ length old.locked → HasRoom script (set tally j now)
  room_more room first size = record {
    size = length-set tally j now ∙ room.size;
    first = λ k among. placed k (λ r. r.first ≡ first_of_era script k)
        (λ e. first ∙ ap (λ (r : EraRuns). r.first) is
        ∙ ap (λ (i : ℕ). (get_or tally i no_runs).first) (sym e) ∙ room.first k among)
        (λ e. room.first k among);
    end = λ k among. placed k (λ r. r.first + length r.locked ≡ end_of_era script k)
        (λ e.
        let at = ap (λ (r : EraRuns). r.first + length r.locked) is
        ∙ ap (λ (i : ℕ). (get_or tally i no_runs).first + length (get_or tally i no_runs).locked)
        (sym e) ∙ room.end k among in
        omega (arith, at, first, size))
        (λ e. room.end k among);
  }

pub room_unkeyed : (script : Script) (seed : ℕ) (tally : List EraRuns)
    → HasRoom (keyed script seed) tally → HasRoom script tally
room_unkeyed script seed tally room =
    record { size = room.size; first = room.first; end = room.end }

-- the run with that key is counted in the eras before j, and not yet in the others
pub record CountedBelow (locks : Locks) (script : Script) (seeds : List ℕ) (seed j : ℕ)
    (tally : List EraRuns) : Type 0 where
  pub size : length tally ≡ length script.eras + 1
  pub done : (k : ℕ) → k < j → k ≤ length script.eras
      → AreOfEra locks script (seeds ++ seed ∷ []) k (get_or tally k no_runs)
  pub rest : (k : ℕ) → j ≤ k → k ≤ length script.eras
      → AreOfEra locks script seeds k (get_or tally k no_runs)

-- what a run with that key notes
abbrev pub Notes : (old now : EraRuns) → (seed : ℕ) → (locked : Option ℕ) → Type 0
Notes old now seed locked = (lock : ℕ → Option ℕ) (first size : ℕ) (seeds : List ℕ)
    → length seeds + 1 < 2 ^ 64 → lock seed ≡ locked → AreRuns lock first size seeds old
    → AreRuns lock first size (seeds ++ seed ∷ []) now

module _ (locks : Locks) (script : Script) (seeds : List ℕ) (seed : ℕ)
    (few : length seeds + 1 < 2 ^ 64) where
  pub one_counted : (j : ℕ) (tally : List EraRuns) (old now : EraRuns) (locked : Option ℕ)
      → j < length tally → old ≡ get_or tally j no_runs → Notes old now seed locked
      → lock_with locks script j seed ≡ locked
      → CountedBelow locks script seeds seed j tally
      → CountedBelow locks script seeds seed (j + 1) (set tally j now)
  one_counted j tally old now locked here is notes known are =
      let among : j ≤ length script.eras = let size = are.size in omega (arith, here, size) in
      let counted : AreOfEra locks script (seeds ++ seed ∷ []) j now =
      notes (lock_with locks script j) (first_of_era script j)
      (end_of_era script j - first_of_era script j) seeds few known
      (subst (AreOfEra locks script seeds j) (sym is) (are.rest j (omega arith) among)) in
      record {
        size = length-set tally j now ∙ are.size;
        done = λ k lt in_k. placed script tally j old now here is k
            (AreOfEra locks script (seeds ++ seed ∷ []) k)
            (λ e. subst (λ (i : ℕ). AreOfEra locks script (seeds ++ seed ∷ []) i now) (sym e)
            counted)
            (λ e. are.done k (omega (arith, lt, e)) in_k);
        rest = λ k le in_k. placed script tally j old now here is k (AreOfEra locks script seeds k)
            (λ e. absurd (omega (arith, le, e)))
            (λ e. are.rest k (omega (arith, le)) in_k);
      }

-- the first locked configuration of a run is that of its key
pub known_with : (locks : Locks) (script other : Script) (j seed : ℕ) (locked : Option ℕ)
    → locked ≡ locks other j → other ≡ keyed script seed
    → lock_with locks script j seed ≡ locked
known_with locks script other j seed locked is same =
    sym (is ∙ ap (λ (s : Script). locks s j) same)
