-- The laws of trees of halves and of their runs, with each modulus from 2 on.
use Rattle.std.specs.Prelude.{◌≡◌, ℕ, ◌+◌, ◌*◌, ◌^◌, ◌<◌, ◌≤◌, List, length, false}
use Rattle.sync_types.specs.States.{State, zero_state}
use Rattle.construction.specs.Steps.{state_of}
use Rattle.construction.specs.Runs.{is_in, configuration}
use Rattle.halving_plan.specs.Trees.{Tree, tree_nodes, tree_faults, tree_bound}
use Rattle.halving_plan.specs.Trees.{tree_height, tree_for}
use Rattle.halving_plan.specs.LevelStates.{LevelState}
use Rattle.halving_plan.specs.Registers.{level_state_of, inner, with_level_state}
use Rattle.halving_plan.specs.Registers.{HasLevelState}
use Rattle.halving_plan.specs.Steps.{tree_depth, step_of}
use Rattle.machines.specs.Machines.{IsConfiguration, IsTable, Round, Run, CountsFrom}
use Rattle.machines.specs.Machines.{IsToleratedBy, Settles}
use Rattle.machines.specs.Laws.{IsSound}
use Rattle.halving_plan.specs.Runs.{IsState, machine_of, IsLocked}

-- Every tree has more than three nodes for each fault.
abbrev pub HasQuorum : Type 0
HasQuorum = (tree : Tree) → 3 * tree_faults tree < tree_nodes tree

-- the tree of f faults that plans have, with so many spares more
pub record IsFast (f spares : ℕ) : Type 0 where
  pub faults : tree_faults (tree_for f spares) ≡ f
  pub nodes : 0 < f → tree_nodes (tree_for f spares) ≡ 3 * f + 1 + spares
  pub bound : tree_bound (tree_for f spares) ≤ 16 * f
  pub each : tree_bound (tree_for f spares)
      ≤ 10 * (f + tree_height (tree_for f spares))

-- Each tree that plans have is as small and as fast as that.
abbrev pub AreFast : Type 0
AreFast = (f spares : ℕ) → IsFast f spares

-- the level state that is written before a state is read back, and so is the state
pub record IsReadBack (level_state : LevelState) (state : State) : Type 0 where
  pub first : level_state_of (with_level_state level_state state) ≡ level_state
  pub rest : inner (with_level_state level_state state) ≡ state

-- A level state is read back from registers, and registers that have one are written back.
pub record LevelStatesAreRegisters : Type 0 where
  pub read : (level_state : LevelState) (state : State) → IsReadBack level_state state
  pub written : (state : State) → HasLevelState state
      → with_level_state (level_state_of state) (inner state) ≡ state

-- The zero state is a state of each node.
abbrev pub ZeroIsInRange : Type 0
ZeroIsInRange = (tree : Tree) (modulus : ℕ) → 2 ≤ modulus → (v : ℕ)
    → IsState tree modulus v (zero_state (tree_depth tree))

-- The step of a node gives a state of it, whatever was heard.
abbrev pub NextIsInRange : Type 0
NextIsInRange = (tree : Tree) (modulus : ℕ) → 2 ≤ modulus → (v : ℕ) (heard : List State)
    → IsState tree modulus v (step_of tree modulus v heard)

-- Every tree settles.
abbrev pub EveryTreeSettles : Type 0
EveryTreeSettles =
    (tree : Tree) (modulus : ℕ) → 2 ≤ modulus → Settles (machine_of tree modulus)

-- In each run with a tolerated faulty set that reaches the bound, the configuration at the bound is
-- locked.
abbrev pub LocksAtBound : Type 0
LocksAtBound =
    (tree : Tree) (modulus : ℕ) → 2 ≤ modulus → (faulty : List ℕ) (run : List (List State))
    → IsToleratedBy (machine_of tree modulus) faulty → Run (machine_of tree modulus) faulty run
    → tree_bound tree < length run
    → IsLocked tree faulty (configuration run (tree_bound tree))

-- from a configuration on each one is locked, and the outputs count
pub record StaysLockedFrom (tree : Tree) (modulus : ℕ) (faulty : List ℕ)
    (run : List (List State)) (from : ℕ) : Type 0 where
  pub locked : (t : ℕ) → from ≤ t → t < length run → IsLocked tree faulty (configuration run t)
  pub counts : CountsFrom (machine_of tree modulus) faulty run from

-- From any locked configuration on, before the bound too, whatever lies follow.
abbrev pub LockedRunsCount : Type 0
LockedRunsCount =
    (tree : Tree) (modulus : ℕ) → 2 ≤ modulus → (faulty : List ℕ) (run : List (List State))
    → IsToleratedBy (machine_of tree modulus) faulty → Run (machine_of tree modulus) faulty run
    → (from : ℕ) → from < length run → IsLocked tree faulty (configuration run from)
    → StaysLockedFrom tree modulus faulty run from

-- there is a next configuration, and all that are next have the same states of correct nodes
pub record HasOneNext (tree : Tree) (modulus : ℕ) (faulty : List ℕ) (old : List State)
    (lies : List (List State)) : Type 0 where
  pub new : List State
  pub states : IsConfiguration (machine_of tree modulus) new
  pub round : Round (machine_of tree modulus) faulty old lies new
  pub only : (other : List State) → Round (machine_of tree modulus) faulty old lies other
      → (v : ℕ) → v < tree_nodes tree → is_in faulty v ≡ false
      → state_of other v ≡ state_of new v

-- Each configuration and table of lies has exactly one next for the correct nodes.
abbrev pub EachHasOneNext : Type 0
EachHasOneNext =
    (tree : Tree) (modulus : ℕ) → 2 ≤ modulus
    → (faulty : List ℕ) (old : List State) (lies : List (List State))
    → IsConfiguration (machine_of tree modulus) old → IsTable (machine_of tree modulus) lies
    → HasOneNext tree modulus faulty old lies

-- The machine of each tree is sound, within the limits of what is read.
abbrev pub MachinesAreSound : Type 0
MachinesAreSound =
    (tree : Tree) (modulus : ℕ) → 2 ≤ modulus → modulus ≤ 2 ^ 40 → tree_nodes tree ≤ 256
    → IsSound (machine_of tree modulus)
