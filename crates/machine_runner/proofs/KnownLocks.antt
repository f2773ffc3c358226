-- Of each era the first locked configuration so far, from one configuration to the next.
use Rattle.std.proofs.Common.{◌≡◌, ℕ, zero, suc, ◌+◌, ◌<◌}
use Rattle.std.proofs.Common.{inl, inr, List, length, get_or, set, Bool}
use Rattle.std.proofs.Common.{true, false, ◌&&◌, eqb, Option, None}
use Rattle.std.proofs.Common.{add-one, refl, sym, ap, ap₂, ◌∙◌}
use Rattle.std.proofs.Common.{subst, arith}
use Rattle.std.proofs.lemmas.Bool.{cases_eq, eq-eqb, eqb-true}
use Rattle.std.proofs.lemmas.List.{length-set, length-replicate, get_or-set_same, get_or-set_other}
use Rattle.std.proofs.lemmas.List.{get_or-replicate}
use Rattle.std.proofs.lemmas.List.FromFn.{fill_by_all, length-map-range_with_len}
use Rattle.std.proofs.lemmas.List.FromFn.{get_or-map-range_with_len}
use Rattle.sync_types.specs.States.{State}
use Rattle.adversary_script.specs.Scripts.{Script, IsScript}
use Rattle.adversary_script.specs.Eras.{era_of, faulty_of_era, faulty_at}
use Rattle.machine_runner.specs.FirstLocked.{LockTest, first_of, first_locked, era_locked}
use Rattle.machine_runner.specs.FirstLocked.{begun_locks}
use Rattle.machine_runner.specs.FirstLocked.{next_locks, known_locks}
use Rattle.machine_runner.proofs.FirstPassing.{same_known}
use Rattle.machine_runner.proofs.Firsts.{begun_era, era_within}

pub begun_long : (locked : LockTest) (script : Script) (config : List State)
    → length (begun_locks locked script config) ≡ length script.eras + 1
begun_long locked script config =
    let none : Option ℕ = None in
    let long = length-replicate (length script.eras) none in
    omega (arith, long)

module _ (locked : LockTest) (script : Script) (config_at : ℕ → List State) where
  abbrev known : ℕ → ℕ → Option ℕ
  known t j = first_locked (era_locked locked script config_at j) t

  abbrev all_known : ℕ → List (Option ℕ)
  all_known t = known_locks locked script config_at t

  pub known_long : (t : ℕ) → length (all_known t) ≡ length script.eras + 1
  known_long t = length-map-range_with_len (known t) 0 (length script.eras + 1)

  pub known_at : (t j : ℕ) (d : Option ℕ) → j < length script.eras + 1
      → get_or (all_known t) j d ≡ known t j
  known_at t j d lt = get_or-map-range_with_len (known t) 0 (length script.eras + 1) j j d lt
      (omega arith)

  pub other_era : (t j : ℕ) (same : Bool) → eqb (era_of script t) j ≡ same
      → (j ≡ era_of script t → ⊥)
      → era_locked locked script config_at j t ≡ false
  other_era t j true is other = absurd (other (sym (eqb-true _ _ is)))
  other_era t j false is other = rw is refl

  -- those of configuration 0
  one_known : (j : ℕ) → j < length script.eras + 1 → era_of script 0 ≡ 0
      → get_or (begun_locks locked script (config_at 0)) j None ≡ known 0 j
  one_known zero lt here = rw here refl
  one_known (suc j) lt here = get_or-replicate (length script.eras) j None None (omega arith)
      ∙ sym (ap (λ b. first_of None b 0) (other_era 0 (suc j) (eqb (era_of script 0) (suc j)) refl
      (λ same. absurd (omega (arith, same, here)))))

  pub first_known : IsScript script → begun_locks locked script (config_at 0) ≡ all_known 0
  first_known whole =
      fill_by_all (known 0) (begun_locks locked script (config_at 0)) (length script.eras + 1) None
      (begun_long locked script (config_at 0))
      (λ j lt. one_known j lt (begun_era script whole.formed.rising 0 0 (omega arith) refl))

  -- and those of the next one
  pub next_known : (t : ℕ) → next_locks locked script (all_known t) (suc t) (config_at (suc t))
      ≡ all_known (suc t)
  next_known t =
      let era : ℕ = era_of script (suc t) in
      let here : era < length script.eras + 1 = let within = era_within script (suc t) in
      omega (arith, within) in
      let long = known_long t in
      let now : Option ℕ = first_of (get_or (all_known t) era None)
      (locked (faulty_at script (suc t)) (config_at (suc t))) (suc t) in
      let own : now ≡ known (suc t) era =
      ap₂ (λ (o : Option ℕ) (b : Bool). first_of o
      (b && locked (faulty_at script (suc t)) (config_at (suc t))) (suc t))
      (known_at t era None here) (sym (eq-eqb era era refl)) in
      fill_by_all (known (suc t)) (set (all_known t) era now) (length script.eras + 1) None
      (length-set (all_known t) era now ∙ long) (λ j lt. elim (cases_eq j era) [
        | inl same ↦ subst (λ i. get_or (set (all_known t) era now) i None ≡ known (suc t) i)
            (sym same) (get_or-set_same (all_known t) era now None (omega (arith, here, long))
            ∙ own)
        | inr other ↦ get_or-set_other (all_known t) era j now None other ∙ known_at t j None lt
            ∙ sym (ap (λ b. first_of (known t j) b (suc t))
            (other_era (suc t) j (eqb era j) refl other) ∙ same_known (known t j) (suc t))
      ])

  pub goes_on : (t : ℕ) → next_locks locked script (all_known t) (t + 1) (config_at (t + 1))
      ≡ all_known (t + 1)
  goes_on t =
      let next : suc t ≡ t + 1 = sym (add-one t) in
      ap (λ u. next_locks locked script (all_known t) u (config_at u)) (sym next)
      ∙ (next_known t ∙ ap all_known next)

-- what is noted of the era of a configuration is what is known next
pub noted_is : (locked : LockTest) (script : Script) (locks : List (Option ℕ)) (at : ℕ)
    (config : List State) (era : ℕ) (ids : List ℕ) → era ≡ era_of script at
    → ids ≡ faulty_of_era script era
    → set locks era (first_of (get_or locks era None) (locked ids config) at)
    ≡ next_locks locked script locks at config
noted_is locked script locks at config era ids is same =
    ap (λ (ids : List ℕ). set locks era (first_of (get_or locks era None) (locked ids config) at))
    same
    ∙ ap (λ (j : ℕ). set locks j
    (first_of (get_or locks j None) (locked (faulty_of_era script j) config) at)) is
