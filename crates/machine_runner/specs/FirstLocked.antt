-- Of each era the first locked configuration, by any test for locked, and by what locked means.
use Rattle.std.specs.Prelude.{ℕ, zero, suc, ◌+◌, ◌<◌, ◌≤◌, List, ◌∷◌, length, map, replicate, ◌==◌}
use Rattle.std.specs.Prelude.{Bool, ◌&&◌, Option, Some, None, if◌then◌else◌, slice_set}
use Rattle.std.specs.Prelude.{slice_index_or}
use Rattle.std.specs.List.{range_with_len}
use Rattle.sync_types.specs.States.{State}
use Rattle.adversary_script.specs.Scripts.{Script}
use Rattle.adversary_script.specs.Eras.{era_of, first_of_era, end_of_era, faulty_of_era, faulty_at}

-- the first locked one, if there was one, and else that of this number if it is locked
abbrev pub first_of : Option ℕ → Bool → ℕ → Option ℕ
first_of (Some t) locked now = Some t
first_of None locked now = if locked then Some now else None

-- the first number up to t that is locked
abbrev pub first_locked : (locked : ℕ → Bool) → ℕ → Option ℕ
first_locked locked zero = first_of None (locked zero) zero
first_locked locked (suc t) = first_of (first_locked locked t) (locked (suc t)) (suc t)

-- the test for locked: which nodes are faulty, and the configuration
abbrev pub LockTest : Type 0
LockTest = (faulty : List ℕ) → List State → Bool

-- Of a script's configurations: whether configuration t is one of era j, and locked.
abbrev pub era_locked : LockTest → Script → (config_at : ℕ → List State) → (j : ℕ) → ℕ → Bool
era_locked locked script config_at j t =
    era_of script t == j && locked (faulty_at script t) (config_at t)

-- the first locked configuration of each era so far, if configuration 0 is this one
abbrev pub begun_locks : LockTest → Script → List State → List (Option ℕ)
begun_locks locked script config =
    first_of None (locked script.faulty config) 0 ∷ replicate (length script.eras) None

-- the same if the next configuration, of number `at`, is this one
abbrev pub next_locks : LockTest → Script → List (Option ℕ) → (at : ℕ) → List State
    → List (Option ℕ)
next_locks locked script locks at config =
    slice_set locks (era_of script at) (first_of (slice_index_or locks (era_of script at) None)
    (locked (faulty_at script at) config) at)

-- of each era the first locked configuration up to configuration t
abbrev pub known_locks : LockTest → Script → (config_at : ℕ → List State) → (t : ℕ)
    → List (Option ℕ)
known_locks locked script config_at t =
    map (λ j. first_locked (era_locked locked script config_at j) t)
    (range_with_len 0 (length script.eras + 1))

-- what locked means: of these faulty nodes and this configuration
module _ (is_locked : (faulty : List ℕ) → List State → Type 0) (script : Script)
    (config_at : ℕ → List State) (j : ℕ) where
  -- none of the configurations of era j before number `end` is locked
  abbrev pub NoneIsLocked : (end : ℕ) → Type 0
  NoneIsLocked end =
      (t : ℕ) → first_of_era script j ≤ t → t < end_of_era script j → t < end
      → is_locked (faulty_of_era script j) (config_at t) → ⊥

  -- configuration t is of era j and locked, and none of that era before it is
  pub record IsLockedFirst (t : ℕ) : Type 0 where
    pub from : first_of_era script j ≤ t
    pub before : t < end_of_era script j
    pub locked : is_locked (faulty_of_era script j) (config_at t)
    pub first : NoneIsLocked t

  -- The first locked one of the configurations of era j up to number `at`; none if none of them is.
  abbrev pub IsFirstLocked : (at : ℕ) → Option ℕ → Type 0
  IsFirstLocked at (Some t) = (t ≤ at) × IsLockedFirst t
  IsFirstLocked at None = NoneIsLocked (suc at)
