-- The states of a group's nodes among all that are heard, and in a state what its group reads.
use Rattle.std.specs.Prelude.{◌≡◌, ℕ, ◌+◌, ◌≤◌, List, ◌++◌, length, map, take, drop, All}
use Rattle.sync_types.specs.States.{State}
use Rattle.halving_plan.specs.Steps.{tree_depth}
use Rattle.halving_plan.specs.Groups.{HalvingGroup, registers_end}
use Rattle.halving_plan.specs.Plans.{HalvingNumbers, tree_of}

-- the state of a node in a group whose registers begin so far after the first one
abbrev pub below : (register : ℕ) → State → State
below register state = record { x = state.x; registers = drop register state.registers }

-- so many from the first on
abbrev pub section : {X : Type 0} → (first nodes : ℕ) → List X → List X
section first nodes items = take nodes (drop first items)

-- A stretch of what is heard: the states of the group's nodes, as states in the group.
abbrev pub stretch : HalvingGroup → List State → List State
stretch group heard = map (below group.register) (section group.first group.nodes heard)

-- A state in a group, written over another from a register on: the registers before it and after it
-- stay.
abbrev pub overlaid : (register : ℕ) → (state out : State) → State
overlaid register state out = record {
  x = state.x;
  registers =
      take register out.registers ++ state.registers
      ++ drop (register + length state.registers) out.registers;
}

-- a state has all registers of the group
abbrev pub HasGroup : HalvingGroup → State → Type 0
HasGroup group state = registers_end group ≤ length state.registers

-- a state has all registers that the plan's states have
abbrev pub IsDeep : HalvingNumbers → State → Type 0
IsDeep plan state = tree_depth (tree_of plan) ≤ length state.registers

-- what a node may hear: a state of each node, with all registers; their values are free
pub record CanHear (plan : HalvingNumbers) (heard : List State) : Type 0 where
  pub size : length heard ≡ plan.nodes
  pub deep : All (IsDeep plan) heard
