-- The test of a locked configuration says what it means.
use Rattle.std.proofs.Common.{◌≡◌, ℕ, zero, suc, ◌+◌, ◌<◌, ◌≤◌, inl, inr, Bool, true, false, ◌&&◌}
use Rattle.std.proofs.Common.{List, [], ◌∷◌, Option, Some, None, unwrap_or, refl, sym, ap}
use Rattle.std.proofs.Common.{◌∙◌, subst, arith}
use Rattle.std.specs.Prelude.{nat_eq}
use Rattle.std.specs.List.{list_all}
use Rattle.std.specs.Option.{option_eq}
use Rattle.std.proofs.lemmas.Bool.{eqb-true, eq-eqb, true≢false, and_parts, cases_eq}
use Rattle.sync_types.specs.declared.states.Reg.{Reg}
use Rattle.sync_types.specs.States.{State, register_at}
use Rattle.construction.specs.PhaseKing.{locked_at}
use Rattle.construction.specs.Steps.{state_of}
use Rattle.construction.specs.Runs.{is_in, AllLocked}
use Rattle.machines.specs.Machines.{LockedBy}
use Rattle.machine_runner.specs.Locks.{is_locked_at, first_value, are_locked, correct_registers}
use Rattle.machine_runner.specs.Locks.{is_locked_by}
use Rattle.machine_runner.specs.Laws.{LockTestIsExact}
use Rattle.machine_runner.proofs.Correct.{correct_from, from_zero, from_end, from_faulty}
use Rattle.machine_runner.proofs.Correct.{from_correct}

-- a register that passes is locked at that value
passes : (value : ℕ) (a : Option ℕ) (d : Bool) → option_eq nat_eq a (Some value) && d ≡ true
    → record { a = a; d = d } ≡ locked_at value
passes value None d is = absurd (true≢false (sym is))
passes value (Some b) d is =
    let parts = and_parts (nat_eq b value) d is in
    let same : b ≡ value = eqb-true b value parts.0 in
    rw (same, parts.1) refl

-- and one that is locked at it passes
locked_passes : (value : ℕ) → is_locked_at value (locked_at value) ≡ true
locked_passes value = rw (eq-eqb value value refl) refl

module _ (level n : ℕ) (faulty : List ℕ) (config : List State) where
  -- if all from a place on pass, each does
  each : (p : Reg → Bool) (k from : ℕ) → n ≡ from + k
      → list_all p (correct_from level n faulty config from) ≡ true
      → (v : ℕ) → from ≤ v → v < n → is_in faulty v ≡ false
      → p (register_at level (state_of config v)) ≡ true
  each p zero from size all v lo hi correct = absurd (omega arith)
  each p (suc k) from size all v lo hi correct =
      let lt : from < n = omega arith in
      let later : list_all p (correct_from level n faulty config (from + 1)) ≡ true → from + 1 ≤ v
      → p (register_at level (state_of config v)) ≡ true =
      λ rest le. each p k (from + 1) (omega arith) rest v le hi correct in
      let here : from ≡ v → p (register_at level (state_of config v)) ≡ true = λ same.
      let is = subst (λ (u : ℕ). is_in faulty u ≡ false) (sym same) correct in
      let parts = and_parts (p (register_at level (state_of config from)))
      (list_all p (correct_from level n faulty config (from + 1)))
      (sym (ap (list_all p) (from_correct level n faulty config from lt is)) ∙ all) in
      subst (λ (u : ℕ). p (register_at level (state_of config u)) ≡ true) same parts.0 in
      let rest_of : (b : Bool) → is_in faulty from ≡ b
      → list_all p (correct_from level n faulty config (from + 1)) ≡ true =
      λ b. elim b as (λ b. is_in faulty from ≡ b
      → list_all p (correct_from level n faulty config (from + 1)) ≡ true) [
        | true ↦ λ is. sym (ap (list_all p) (from_faulty level n faulty config from lt is)) ∙ all
        | false ↦ λ is. (and_parts (p (register_at level (state_of config from)))
            (list_all p (correct_from level n faulty config (from + 1)))
            (sym (ap (list_all p) (from_correct level n faulty config from lt is)) ∙ all)).1
      ] in
      elim (cases_eq from v) [
        | inl same ↦ here same
        | inr other ↦
            later (rest_of (is_in faulty from) refl) (omega (arith, other))
      ]

  -- if each passes, all from a place on do
  all : (p : Reg → Bool) (k from : ℕ) → n ≡ from + k
      → ((v : ℕ) → from ≤ v → v < n → is_in faulty v ≡ false
      → p (register_at level (state_of config v)) ≡ true)
      → list_all p (correct_from level n faulty config from) ≡ true
  all p zero from size h = ap (list_all p) (from_end level n faulty config from (omega arith))
  all p (suc k) from size h =
      let lt : from < n = omega arith in
      let rest = all p k (from + 1) (omega arith)
      (λ v lo hi correct. h v (omega arith) hi correct) in
      let by : (b : Bool) → is_in faulty from ≡ b
      → list_all p (correct_from level n faulty config from) ≡ true =
      λ b. elim b as (λ b. is_in faulty from ≡ b
      → list_all p (correct_from level n faulty config from) ≡ true) [
        | true ↦ λ is. ap (list_all p) (from_faulty level n faulty config from lt is) ∙ rest
        | false ↦ λ is. let one : p (register_at level (state_of config from)) ≡ true =
            h from (omega arith) lt is in
            let parts : p (register_at level (state_of config from))
            && list_all p (correct_from level n faulty config (from + 1)) ≡ true =
            rw (one, rest) refl in
            ap (list_all p) (from_correct level n faulty config from lt is) ∙ parts
      ] in
      by (is_in faulty from) refl

  -- the first value of registers that are all locked at one value, if there are any
  first_of : (value : ℕ) (registers : List Reg) → list_all (is_locked_at value) registers ≡ true
      → are_locked registers ≡ true
  first_of value [] locked = refl
  first_of value (register ∷ registers) locked =
      let parts = and_parts (is_locked_at value register)
      (list_all (is_locked_at value) registers) locked in
      let is : register ≡ locked_at value = passes value register.a register.d parts.0 in
      let first : first_value (register ∷ registers) ≡ value =
      ap (λ (r : Reg). unwrap_or r.a 0) is in
      subst (λ (v : ℕ). list_all (is_locked_at v) (register ∷ registers) ≡ true) (sym first) locked

  pub locked_all : are_locked (correct_registers level n faulty config) ≡ true
      → AllLocked level n faulty config
  locked_all locked =
      let value : ℕ = first_value (correct_registers level n faulty config) in
      let start : list_all (is_locked_at value) (correct_from level n faulty config 0) ≡ true =
      ap (list_all (is_locked_at value)) (from_zero level n faulty config) ∙ locked in
      record {
        value = value;
        each = λ v lt correct. passes value (register_at level (state_of config v)).a
            (register_at level (state_of config v)).d
            (each (is_locked_at value) n 0 (omega arith) start v (omega arith) lt correct);
      }

  pub all_locked : AllLocked level n faulty config
      → are_locked (correct_registers level n faulty config) ≡ true
  all_locked h =
      let start = all (is_locked_at h.value) n 0 (omega arith)
      (λ v lo lt correct. rw (h.each v lt correct) (locked_passes h.value)) in
      first_of h.value (correct_registers level n faulty config)
      (sym (ap (list_all (is_locked_at h.value)) (from_zero level n faulty config)) ∙ start)

-- a configuration that passes is locked
pub locked_is : (lock : Option ℕ) (n : ℕ) (faulty : List ℕ) (config : List State)
    → is_locked_by lock n faulty config ≡ true → LockedBy lock n faulty config
locked_is None n faulty config is = tt
locked_is (Some register) n faulty config is = locked_all register n faulty config is

-- and one that is locked passes
pub is_locked_true : (lock : Option ℕ) (n : ℕ) (faulty : List ℕ) (config : List State)
    → LockedBy lock n faulty config → is_locked_by lock n faulty config ≡ true
is_locked_true None n faulty config is = refl
is_locked_true (Some register) n faulty config is = all_locked register n faulty config is

pub lock_test_is_exact : LockTestIsExact
lock_test_is_exact machine faulty config = (
  locked_is machine.lock machine.nodes faulty config,
  is_locked_true machine.lock machine.nodes faulty config,
)
