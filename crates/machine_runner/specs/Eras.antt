-- What is at the configurations of an era of a script, whatever plays it, and how outputs count
-- there.
use Rattle.std.specs.Prelude.{◌≡◌, ℕ, ◌+◌, ◌-◌, ◌%◌, ◌<◌, ◌≤◌, List, map}
use Rattle.std.specs.List.{range_with_len}
use Rattle.sync_types.specs.States.{State}
use Rattle.adversary_script.specs.Scripts.{Script}
use Rattle.adversary_script.specs.Eras.{first_of_era, end_of_era, faulty_at}

-- what is at each configuration of era j
abbrev pub of_era : {A : Type 0} → Script → (at : ℕ → A) → (j : ℕ) → List A
of_era script at j =
    map (λ i. at (first_of_era script j + i))
    (range_with_len 0 (end_of_era script j - first_of_era script j))

-- what it means that the correct nodes of a configuration show a number
module _ (all_show : (faulty : List ℕ) → List State → (output : ℕ) → Type 0) (modulus : ℕ)
    (script : Script) (config_at : ℕ → List State) (j from : ℕ) where
  -- From that configuration to the end of era j all nodes that are correct in it show one number,
  -- which grows by one modulo this one.
  pub record EraCounts : Type 0 where
    pub output : ℕ → ℕ
    pub shows : (t : ℕ) → from ≤ t → t < end_of_era script j
        → all_show (faulty_at script t) (config_at t) (output t)
    pub grows : (t : ℕ) → from ≤ t → t + 1 < end_of_era script j
        → output (t + 1) ≡ (output t + 1) % modulus

  -- from that configuration to the end of era j each one is locked, and they count
  pub record EraStaysLocked (is_locked : (faulty : List ℕ) → List State → Type 0) : Type 0 where
    pub locked : (t : ℕ) → from ≤ t → t < end_of_era script j
        → is_locked (faulty_at script t) (config_at t)
    pub counts : EraCounts
