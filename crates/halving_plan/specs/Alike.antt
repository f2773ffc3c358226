-- Trees of halves as machines: the words of both say the same.
use Rattle.std.specs.Prelude.{ℕ, ◌<◌, ◌↔◌, List, length}
use Rattle.sync_types.specs.States.{State}
use Rattle.construction.specs.Runs.{configuration}
use Rattle.machines.specs.Machines as machines
use Rattle.machines.specs.Machines.{IsToleratedBy, Run}
use Rattle.machines.specs.Laws as laws
use Rattle.halving_plan.specs.Trees.{Tree, tree_bound}
use Rattle.halving_plan.specs.Runs as trees
use Rattle.halving_plan.specs.Runs.{machine_of}
use Rattle.halving_plan.specs.TreeLaws as tree_laws

-- The states of a node, the locked configurations, that each run is locked at the bound, and that
-- it stays so and counts. Rounds, runs and what settles have no other words than those of machines.
pub record AreAlike (tree : Tree) (modulus : ℕ) : Type 0 where
  pub states : (v : ℕ) (state : State) → trees.IsState tree modulus v state
      ↔ machines.IsState (machine_of tree modulus) v state
  pub locks : (faulty : List ℕ) (config : List State) → trees.IsLocked tree faulty config
      ↔ machines.IsLocked (machine_of tree modulus) faulty config
  pub at_bound : ((faulty : List ℕ) (run : List (List State))
      → IsToleratedBy (machine_of tree modulus) faulty → Run (machine_of tree modulus) faulty run
      → tree_bound tree < length run
      → trees.IsLocked tree faulty (configuration run (tree_bound tree)))
      ↔ laws.LocksAtBound (machine_of tree modulus)
  pub stays : (faulty : List ℕ) (run : List (List State)) (from : ℕ)
      → tree_laws.StaysLockedFrom tree modulus faulty run from
      ↔ laws.StaysLockedFrom (machine_of tree modulus) faulty run from

-- So it is of each tree, with each modulus.
abbrev pub TreesAreMachines : Type 0
TreesAreMachines = (tree : Tree) (modulus : ℕ) → 0 < modulus → AreAlike tree modulus
