-- Rounds and runs of a plan with faulty nodes, and that its outputs come to count.
use Rattle.std.specs.Prelude.{◌≡◌, ⊤, ℕ, ◌+◌, ◌%◌, ◌<◌, ◌≤◌, List, [], ◌∷◌, length, map, Bool, true}
use Rattle.std.specs.Prelude.{false, nat_le, ◌==◌, ◌||◌, not, All, IfSome, slice_index_or}
use Rattle.std.specs.Prelude.{if◌then◌else◌}
use Rattle.std.specs.List.{range_with_len}
use Rattle.std.specs.List.Sorted.{IsStrictlyIncreasing}
pub use Rattle.sync_types.specs.FaultSets.{is_in}
use Rattle.sync_types.specs.declared.states.Reg.{Reg}
use Rattle.sync_types.specs.States.{State, zero_register, register_at}
use Rattle.construction.specs.Plans.{Level, Plan, plan_nodes, plan_faults, plan_modulus, plan_bound}
use Rattle.construction.specs.Plans.{plan_depth, plan_low, nodes_of}
use Rattle.construction.specs.Shown.{shown}
use Rattle.construction.specs.PhaseKing.{locked_at}
use Rattle.construction.specs.Steps.{state_of, step_of}
use Rattle.construction.specs.Machines as any
use Rattle.construction.specs.Machines.{Machine}
pub use Rattle.construction.specs.Machines.{configuration, heard_of, heard_by}

-- the number of a node: below the base if the node has it, else 0
abbrev pub IsNumber : (has : Bool) (base x : ℕ) → Type 0
IsNumber true base x = x < base
IsNumber false base x = x ≡ 0

-- a register of a node: a finite value is below the modulus if the node has the register, else the
-- register is zero
abbrev pub IsRegister : (has : Bool) (modulus : ℕ) → Reg → Type 0
IsRegister true modulus r = IfSome r.a (λ a. a < modulus)
IsRegister false modulus r = r ≡ zero_register

-- the registers of a node that takes part from level `low` on
abbrev pub HasRegisters : (low : ℕ) → List Level → State → Type 0
HasRegisters low [] state = ⊤
HasRegisters low (level ∷ below) state =
    HasRegisters low below state
    × IsRegister (nat_le low (length below + 1)) level.modulus (register_at (length below) state)

-- a state of node v: the fields that it has are in range, and those that it lacks are zero
pub record IsState (plan : Plan) (v : ℕ) (state : State) : Type 0 where
  pub depth : length state.registers ≡ plan_depth plan
  pub x : IsNumber (nat_le (plan_low plan v) 0) plan.base state.x
  pub registers : HasRegisters (plan_low plan v) plan.levels state

-- the machine of a plan
abbrev pub machine_of : Plan → Machine
machine_of plan = record {
  nodes = plan_nodes plan;
  faults = plan_faults plan;
  modulus = plan_modulus plan;
  bound = plan_bound plan;
  depth = plan_depth plan;
  shows = λ v state. shown (plan_depth plan) state;
  next = step_of plan;
}

abbrev pub IsConfiguration : (plan : Plan) (config : List State) → Type 0
IsConfiguration plan config = any.IsConfiguration (machine_of plan) (IsState plan) config

abbrev pub IsTold : (plan : Plan) (u : ℕ) (told : List State) → Type 0
IsTold plan u told = any.IsTold (machine_of plan) (IsState plan) u told

abbrev pub IsTable : (plan : Plan) (lies : List (List State)) → Type 0
IsTable plan lies = any.IsTable (machine_of plan) (IsState plan) lies

abbrev pub Round : (plan : Plan) (faulty : List ℕ) (old : List State) (lies : List (List State))
    (new : List State) → Type 0
Round plan faulty old lies new = any.Round (machine_of plan) (IsState plan) faulty old lies new

abbrev pub IsNext : (plan : Plan) (faulty : List ℕ) (old new : List State) → Type 0
IsNext plan faulty old new = any.IsNext (machine_of plan) (IsState plan) faulty old new

abbrev pub Run : (plan : Plan) (faulty : List ℕ) (run : List (List State)) → Type 0
Run plan faulty run = any.Run (machine_of plan) (IsState plan) faulty run

abbrev pub AllShow : (plan : Plan) (faulty : List ℕ) (config : List State) (output : ℕ) → Type 0
AllShow plan faulty config output = any.AllShow (machine_of plan) faulty config output

abbrev pub CountsFrom : (plan : Plan) (faulty : List ℕ) (run : List (List State)) (from : ℕ)
    → Type 0
CountsFrom plan faulty run from = any.CountsFrom (machine_of plan) faulty run from

-- they do so from the bound on
abbrev pub Counts : (plan : Plan) (faulty : List ℕ) (run : List (List State)) → Type 0
Counts plan faulty run = CountsFrom plan faulty run (plan_bound plan)

abbrev pub IsToleratedBy : (plan : Plan) (faulty : List ℕ) → Type 0
IsToleratedBy plan faulty = any.IsToleratedBy (machine_of plan) faulty

-- whatever the start and the lies, with each faulty set that the plan tolerates
abbrev pub Settles : Plan → Type 0
Settles plan = any.Settles (machine_of plan) (IsState plan)

-- the registers at a level of all correct nodes are one, finite and marked
pub record AllLocked (level n : ℕ) (faulty : List ℕ) (config : List State) : Type 0 where
  pub value : ℕ
  pub each : (v : ℕ) → v < n → is_in faulty v ≡ false
      → register_at level (state_of config v) ≡ locked_at value

-- those of the top level are; with no level every configuration is locked
abbrev pub IsLockedIn : List Level → List ℕ → List State → Type 0
IsLockedIn [] faulty config = ⊤
IsLockedIn (level ∷ below) faulty config =
    AllLocked (length below) (nodes_of (level ∷ below)) faulty config

abbrev pub IsLocked : Plan → List ℕ → List State → Type 0
IsLocked plan faulty config = IsLockedIn plan.levels faulty config
