-- Whether a configuration is locked.
use Rattle.std.specs.Prelude.{ℕ, List, [], ◌∷◌, map, filter, not, nat_eq}
use Rattle.std.specs.Prelude.{Bool, true, ◌&&◌, Option, Some, None, unwrap_or}
use Rattle.std.specs.List.{list_all, range_with_len}
use Rattle.std.specs.Option.{option_eq}
use Rattle.sync_types.specs.declared.states.Reg.{Reg}
use Rattle.sync_types.specs.States.{State, register_at}
use Rattle.construction.specs.Steps.{state_of}
use Rattle.construction.specs.Runs.{is_in}
use Rattle.machines.specs.Machines.{Machine, IsLocked}
use Rattle.adversary_script.specs.Scripts.{Script}
use Rattle.machine_runner.specs.FirstLocked as any
pub use Rattle.machine_runner.specs.FirstLocked.{first_of, first_locked}

-- whether a register is marked and has the value a
abbrev pub is_locked_at : ℕ → Reg → Bool
is_locked_at a register = option_eq nat_eq register.a (Some a) && register.d

-- the value of the first register, if that is finite
abbrev pub first_value : List Reg → ℕ
first_value [] = 0
first_value (register ∷ registers) = unwrap_or register.a 0

-- whether registers are one, finite and marked
abbrev pub are_locked : List Reg → Bool
are_locked registers = list_all (is_locked_at (first_value registers)) registers

-- the correct nodes among so many
abbrev pub correct_nodes : ℕ → (faulty : List ℕ) → List ℕ
correct_nodes n faulty = filter (λ v. not (is_in faulty v)) (range_with_len 0 n)

-- one register of the correct nodes
abbrev pub correct_registers : (register n : ℕ) → (faulty : List ℕ) → List State → List Reg
correct_registers register n faulty config = map (λ v. register_at register (state_of config v))
    (correct_nodes n faulty)

-- whether that register of the correct nodes is one, finite and marked, if there is one
abbrev pub is_locked_by : (lock : Option ℕ) → (n : ℕ) → (faulty : List ℕ) → List State → Bool
is_locked_by None n faulty config = true
is_locked_by (Some register) n faulty config =
    are_locked (correct_registers register n faulty config)

abbrev pub is_locked : Machine → (faulty : List ℕ) → List State → Bool
is_locked machine faulty config = is_locked_by machine.lock machine.nodes faulty config

-- Of a script's configurations: whether configuration t is one of era j, and locked.
abbrev pub era_locked : Machine → Script → (config_at : ℕ → List State) → (j : ℕ) → ℕ → Bool
era_locked machine script config_at j t =
    any.era_locked (is_locked machine) script config_at j t

-- The first locked one of the configurations of era j up to number `at`; none if none of them is.
abbrev pub IsFirstLocked : Machine → Script → (config_at : ℕ → List State) → (j at : ℕ) → Option ℕ
    → Type 0
IsFirstLocked machine script config_at j at known =
    any.IsFirstLocked (IsLocked machine) script config_at j at known
