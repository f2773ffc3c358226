-- Rounds and runs of any counter whose nodes have states, with faulty nodes, and how its outputs
-- come to count.
use Rattle.std.specs.Prelude.{◌≡◌, ⊤, ℕ, ◌+◌, ◌%◌, ◌<◌, ◌≤◌, Option, Some, None, List, [], length}
use Rattle.std.specs.Prelude.{false, All, slice_index_or}
use Rattle.std.specs.List.Sorted.{IsStrictlyIncreasing}
use Rattle.sync_types.specs.States.{State}
use Rattle.construction.specs.Steps.{state_of}
use Rattle.construction.specs.Machines as any
use Rattle.construction.specs.Runs.{AllLocked}
use Rattle.counter_core.specs.Meanings.{cut}
use Rattle.state_codec.specs.Shapes.{Fields}
use Rattle.state_codec.specs.Ranges.{InRange}

-- A counter: N nodes, of which F may be faulty, count modulo C from T on, and a state has so many
-- registers. Of each node: the fields that its states have, what a state shows, and the step from
-- what it hears of all nodes. One register tells whether a configuration is locked; if there is
-- none, each is.
pub record Machine : Type 0 where
  pub nodes : ℕ
  pub faults : ℕ
  pub modulus : ℕ
  pub bound : ℕ
  pub depth : ℕ
  pub fields : (v : ℕ) → Fields
  pub shows : (v : ℕ) → State → ℕ
  pub step : (v : ℕ) → List State → State
  pub lock : Option ℕ

-- the register, if there is one, is the same, finite and marked, in all correct nodes
abbrev pub LockedBy : (lock : Option ℕ) (nodes : ℕ) (faulty : List ℕ) (config : List State)
    → Type 0
LockedBy None nodes faulty config = ⊤
LockedBy (Some register) nodes faulty config = AllLocked register nodes faulty config

module _ (machine : Machine) where
  -- a state of node v
  abbrev pub IsState : (v : ℕ) → State → Type 0
  IsState v state = InRange (machine.fields v) state

  -- the correct nodes agree, and go on so
  abbrev pub IsLocked : (faulty : List ℕ) (config : List State) → Type 0
  IsLocked faulty config = LockedBy machine.lock machine.nodes faulty config

  -- its numbers, what its states show, and the step
  abbrev pub core : any.Machine
  core = record {
    nodes = machine.nodes;
    faults = machine.faults;
    modulus = machine.modulus;
    bound = machine.bound;
    depth = machine.depth;
    shows = machine.shows;
    next = machine.step;
  }

  -- The number and the first registers are a state of node v: those of a layer may stand after
  -- them.
  pub record IsFront (v : ℕ) (state : State) : Type 0 where
    pub deep : machine.depth ≤ length state.registers
    pub front : IsState v (cut machine.depth state)

  -- such a state for each node
  pub record AreFronts (states : List State) : Type 0 where
    pub size : length states ≡ machine.nodes
    pub fronts : (v : ℕ) → v < machine.nodes → IsFront v (state_of states v)

  abbrev pub IsConfiguration : (config : List State) → Type 0
  IsConfiguration config = any.IsConfiguration core IsState config

  abbrev pub IsTold : (u : ℕ) (told : List State) → Type 0
  IsTold u told = any.IsTold core IsState u told

  abbrev pub IsTable : (lies : List (List State)) → Type 0
  IsTable lies = any.IsTable core IsState lies

  abbrev pub Round : (faulty : List ℕ) (old : List State) (lies : List (List State))
      (new : List State) → Type 0
  Round faulty old lies new = any.Round core IsState faulty old lies new

  abbrev pub IsNext : (faulty : List ℕ) (old new : List State) → Type 0
  IsNext faulty old new = any.IsNext core IsState faulty old new

  abbrev pub Run : (faulty : List ℕ) (run : List (List State)) → Type 0
  Run faulty run = any.Run core IsState faulty run

  abbrev pub AllShow : (faulty : List ℕ) (config : List State) (output : ℕ) → Type 0
  AllShow faulty config output = any.AllShow core faulty config output

  abbrev pub CountsFrom : (faulty : List ℕ) (run : List (List State)) (from : ℕ) → Type 0
  CountsFrom faulty run from = any.CountsFrom core faulty run from

  abbrev pub IsToleratedBy : (faulty : List ℕ) → Type 0
  IsToleratedBy faulty = any.IsToleratedBy core faulty

  abbrev pub Settles : Type 0
  Settles = any.Settles core IsState
