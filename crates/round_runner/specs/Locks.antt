-- Whether a configuration is locked.
use Rattle.std.specs.Prelude.{ℕ, List, [], ◌∷◌, length, Bool, true, Option}
use Rattle.sync_types.specs.States.{State}
use Rattle.construction.specs.Plans.{Level, Plan, nodes_of}
use Rattle.construction.specs.Runs.{IsLocked}
use Rattle.adversary_script.specs.Scripts.{Script}
use Rattle.machine_runner.specs.FirstLocked as any
pub use Rattle.machine_runner.specs.FirstLocked.{first_of, first_locked}
use Rattle.machine_runner.specs.Locks.{correct_registers}
pub use Rattle.machine_runner.specs.Locks.{are_locked, correct_nodes}

-- whether the top registers of the correct nodes are; with no level every configuration is locked
abbrev pub is_locked_in : List Level → (faulty : List ℕ) → List State → Bool
is_locked_in [] faulty config = true
is_locked_in (level ∷ below) faulty config = are_locked
    (correct_registers (length below) (nodes_of (level ∷ below)) faulty config)

abbrev pub is_locked : Plan → (faulty : List ℕ) → List State → Bool
is_locked plan faulty config = is_locked_in plan.levels faulty config

-- Of a script's configurations: whether configuration t is one of era j, and locked.
abbrev pub era_locked : Plan → Script → (config_at : ℕ → List State) → (j : ℕ) → ℕ → Bool
era_locked plan script config_at j t =
    any.era_locked (is_locked plan) script config_at j t

-- The first locked one of the configurations of era j up to number `at`; none if none of them is.
abbrev pub IsFirstLocked : Plan → Script → (config_at : ℕ → List State) → (j at : ℕ) → Option ℕ
    → Type 0
IsFirstLocked plan script config_at j at known =
    any.IsFirstLocked (IsLocked plan) script config_at j at known
