-- Runs of a tree with states by configuration and place, from configuration 0 to the last one, and
-- with a test for the faulty places.
use Rattle.std.proofs.Common.{◌≡◌, ℕ, ◌+◌, ◌%◌, ◌<◌, ◌≤◌, List, length, Bool, false}
use Rattle.sync_types.specs.declared.states.Reg.{Reg}
use Rattle.sync_types.specs.States.{State}
use Rattle.counting.specs.Places.{places}
use Rattle.construction.specs.Steps.{state_of}
use Rattle.halving_plan.specs.Trees.{Tree, tree_nodes, tree_faults, tree_bound}
use Rattle.halving_plan.specs.Steps.{shown_in, step_in}
use Rattle.halving_plan.specs.Runs.{fields_in, HasFields}
use Rattle.halving_plan.proofs.LevelStates.{followed}

-- node v steps; the registers after its step's are free
pub record StepsIn (tree : Tree) (modulus : ℕ) (faulty : ℕ → Bool) (old : ℕ → State) (v : ℕ)
    (new : State) : Type 0 where
  pub heard : List State
  pub size : length heard ≡ tree_nodes tree
  pub honest : (u : ℕ) → u < tree_nodes tree → faulty u ≡ false → state_of heard u ≡ old u
  pub further : List Reg
  pub step : new ≡ followed (step_in tree modulus v heard) further

-- a run
pub record RunIn (tree : Tree) (modulus : ℕ) (faulty : ℕ → Bool) (last : ℕ)
    (run : ℕ → ℕ → State) : Type 0 where
  pub fields : (t v : ℕ) → t ≤ last → v < tree_nodes tree → faulty v ≡ false
      → HasFields (fields_in tree modulus v) (run t v)
  pub steps : (t v : ℕ) → t < last → v < tree_nodes tree → faulty v ≡ false
      → StepsIn tree modulus faulty (run t) v (run (t + 1) v)

-- from the bound on all correct nodes show one number, which grows by one modulo the modulus
pub record CountsIn (tree : Tree) (modulus : ℕ) (faulty : ℕ → Bool) (last : ℕ)
    (run : ℕ → ℕ → State) : Type 0 where
  pub output : ℕ → ℕ
  pub shows : (t v : ℕ) → tree_bound tree ≤ t → t ≤ last → v < tree_nodes tree
      → faulty v ≡ false → shown_in tree (run t v) ≡ output t
  pub grows : (t : ℕ) → tree_bound tree ≤ t → t < last
      → output (t + 1) ≡ (output t + 1) % modulus

-- with each faulty set that the tree tolerates
abbrev pub SettlesIn : (tree : Tree) (modulus : ℕ) → Type 0
SettlesIn tree modulus = (faulty : ℕ → Bool) (last : ℕ) (run : ℕ → ℕ → State)
    → places faulty (tree_nodes tree) ≤ tree_faults tree
    → RunIn tree modulus faulty last run → CountsIn tree modulus faulty last run
