-- The first configuration of an era that passes an exact test for locked is its first locked one.
use Rattle.std.proofs.Common.{◌≡◌, ◌↔◌, ℕ, suc, ◌<◌, ◌≤◌, true, false, Option, Some, None}
use Rattle.std.proofs.Common.{List, length, sym, ap, subst, ◌∙◌, arith}
use Rattle.std.proofs.lemmas.Bool.{true≢false, and_parts, and_from, eqb-true, eq-eqb}
use Rattle.sync_types.specs.States.{State}
use Rattle.machines.specs.Machines.{IsLocked}
use Rattle.adversary_script.specs.Scripts.{Script, IsScript}
use Rattle.adversary_script.specs.Eras.{era_of, first_of_era, end_of_era, faulty_of_era, faulty_at}
use Rattle.machine_runner.specs.FirstLocked.{LockTest, first_locked, era_locked, NoneIsLocked}
use Rattle.machine_runner.specs.FirstLocked.{IsFirstLocked}
use Rattle.machine_runner.specs.Locks.{is_locked}
use Rattle.machine_runner.specs.Laws.{FirstsAreLocked}
use Rattle.machine_runner.proofs.FirstPassing.{IsFirst, first_is}
use Rattle.machine_runner.proofs.Firsts.{in_era, era_from, era_before}
use Rattle.machine_runner.proofs.Locked.{lock_test_is_exact}

-- a test that passes just what is locked
abbrev pub IsExact : LockTest → (meant : (faulty : List ℕ) → List State → Type 0) → Type 0
IsExact locked meant = (faulty : List ℕ) (config : List State)
    → (locked faulty config ≡ true) ↔ meant faulty config

module _ (locked : LockTest) (meant : (faulty : List ℕ) → List State → Type 0)
    (exact : IsExact locked meant) (script : Script) (config_at : ℕ → List State)
    (whole : IsScript script) (j at : ℕ) (among : j ≤ length script.eras)
    (within : at ≤ script.rounds) where
  same_faulty : (t : ℕ) → era_of script t ≡ j → faulty_at script t ≡ faulty_of_era script j
  same_faulty t here = ap (faulty_of_era script) here

  -- what passes is locked, and what is locked passes
  passed : (t : ℕ) → era_locked locked script config_at j t ≡ true → (era_of script t ≡ j)
      × meant (faulty_of_era script j) (config_at t)
  passed t is =
      let parts = and_parts _ _ is in
      let here : era_of script t ≡ j = eqb-true _ _ parts.0 in (
        here,
        subst (λ faulty. meant faulty (config_at t)) (same_faulty t here)
            ((exact (faulty_at script t) (config_at t)).0 parts.1),
      )

  pub passes : (t : ℕ) → era_of script t ≡ j → meant (faulty_of_era script j) (config_at t)
      → era_locked locked script config_at j t ≡ true
  passes t here is = and_from _ _ (eq-eqb _ _ here)
      ((exact (faulty_at script t) (config_at t)).1
      (subst (λ faulty. meant faulty (config_at t)) (sym (same_faulty t here)) is))

  none_passed : (end : ℕ) → ((t : ℕ) → t < end → era_locked locked script config_at j t ≡ false)
      → NoneIsLocked meant script config_at j end
  none_passed end none t low high before is =
      true≢false (sym (passes t (in_era script whole.formed.rising j t among low high) is)
      ∙ none t before)

  known : (found : Option ℕ) → IsFirst (era_locked locked script config_at j) at found
      → IsFirstLocked meant script config_at j at found
  known None h = none_passed (suc at) (λ t lt. h t (omega (arith, lt)))
  known (Some t) h =
      let here = passed t h.1 in
      let inside = h.0 in (
        inside,
        record {
          from = subst (λ e. first_of_era script e ≤ t) here.0
              (era_from script whole.formed.rising t);
          before = subst (λ e. t < end_of_era script e) here.0
              (era_before script whole.formed.rising t (omega (arith, inside, within)));
          locked = here.1;
          first = none_passed t h.2;
        },
      )

  pub first_is_locked : IsFirstLocked meant script config_at j at
      (first_locked (era_locked locked script config_at j) at)
  first_is_locked = known (first_locked (era_locked locked script config_at j) at)
      (first_is (era_locked locked script config_at j) at)

pub firsts_are_locked : FirstsAreLocked
firsts_are_locked machine script config_at whole j at among within =
    first_is_locked (is_locked machine) (IsLocked machine) (lock_test_is_exact machine) script
    config_at whole j at among within
