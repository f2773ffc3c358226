-- One register of the correct nodes from one place on.
use Rattle.std.proofs.Common.{◌≡◌, ℕ, suc, ◌+◌, ◌-◌, ◌<◌, ◌≤◌, Bool, true, false, cond, not, ◌&&◌}
use Rattle.std.proofs.Common.{List, [], ◌∷◌, map, refl, ap, ◌∙◌, arith}
use Rattle.std.specs.Prelude.{filter}
use Rattle.std.specs.List.{list_all, range_with_len}
use Rattle.sync_types.specs.declared.states.Reg.{Reg}
use Rattle.sync_types.specs.States.{State, register_at}
use Rattle.construction.specs.Steps.{state_of}
use Rattle.construction.specs.Runs.{is_in}
use Rattle.machine_runner.specs.Locks.{correct_registers, is_locked_at}

module _ (level n : ℕ) (faulty : List ℕ) (config : List State) where
  abbrev pub correct_from : ℕ → List Reg
  correct_from v = map (λ u. register_at level (state_of config u))
      (filter (λ u. not (is_in faulty u)) (range_with_len v (n - v)))

  either : (b : Bool) (v : ℕ) (behind : List ℕ)
      → map (λ u. register_at level (state_of config u)) (cond b (v ∷ behind) behind)
      ≡ cond b (register_at level (state_of config v) ∷ map
      (λ u. register_at level (state_of config u)) behind)
      (map (λ u. register_at level (state_of config u)) behind)
  either true v behind = refl
  either false v behind = refl

  -- a correct node is the first of them
  pub from_one : (v : ℕ) → v < n → correct_from v
      ≡ cond (not (is_in faulty v)) (register_at level (state_of config v) ∷ correct_from (v + 1))
      (correct_from (v + 1))
  from_one v lt =
      let more : n - v ≡ suc (n - (v + 1)) = omega arith in
      let b : Bool = not (is_in faulty v) in
      let f : ℕ → Reg = λ u. register_at level (state_of config u) in
      let p : ℕ → Bool = λ u. not (is_in faulty u) in
      ap (λ (m : ℕ). map f (filter p (range_with_len v m))) more
      ∙ either b v (filter p (range_with_len (v + 1) (n - (v + 1))))

  -- from the first place on they are all of them
  pub from_zero : correct_from 0 ≡ correct_registers level n faulty config
  from_zero = let all : n - 0 ≡ n = omega arith in
      ap (λ (m : ℕ). map (λ u. register_at level (state_of config u))
      (filter (λ u. not (is_in faulty u)) (range_with_len 0 m))) all

  pub from_end : (v : ℕ) → n ≤ v → correct_from v ≡ []
  from_end v le = let none : n - v ≡ 0 = omega arith in rw none refl

  -- a faulty node is none of them
  pub from_faulty : (v : ℕ) → v < n → is_in faulty v ≡ true → correct_from v ≡ correct_from (v + 1)
  from_faulty v lt is = from_one v lt ∙ rw is refl

  pub from_correct : (v : ℕ) → v < n → is_in faulty v ≡ false
      → correct_from v ≡ register_at level (state_of config v) ∷ correct_from (v + 1)
  from_correct v lt is = from_one v lt ∙ rw is refl

  -- if one is not locked, not all are
  pub one_is_not : (value v : ℕ) → v < n → is_in faulty v ≡ false
      → is_locked_at value (register_at level (state_of config v)) ≡ false
      → list_all (is_locked_at value) (correct_from v) ≡ false
  one_is_not value v lt is not_locked = rw (from_correct v lt is)
      (ap (λ (b : Bool). b && list_all (is_locked_at value) (correct_from (v + 1))) not_locked)

  -- if one is locked, it depends on the others
  pub one_is : (value v : ℕ) → v < n → is_in faulty v ≡ false
      → is_locked_at value (register_at level (state_of config v)) ≡ true
      → list_all (is_locked_at value) (correct_from v)
      ≡ list_all (is_locked_at value) (correct_from (v + 1))
  one_is value v lt is locked = rw (from_correct v lt is)
      (ap (λ (b : Bool). b && list_all (is_locked_at value) (correct_from (v + 1))) locked)
