-- The words of trees and those of machines say the same.
use Rattle.std.proofs.Common.{ℕ, ◌<◌, List}
use Rattle.std.specs.Prelude.{◌↔◌}
use Rattle.sync_types.specs.States.{State}
use Rattle.machines.specs.Machines as machines
use Rattle.halving_plan.specs.Trees.{Tree, One, Split}
use Rattle.halving_plan.specs.Runs as trees
use Rattle.halving_plan.specs.Runs.{machine_of}
use Rattle.halving_plan.proofs.States.{range_of_state, state_of_range}
use Rattle.halving_plan.specs.Alike.{AreAlike, TreesAreMachines}

same_locks : (tree : Tree) (modulus : ℕ) (faulty : List ℕ) (config : List State)
    → trees.IsLocked tree faulty config
    ↔ machines.IsLocked (machine_of tree modulus) faulty config
same_locks One modulus faulty config = (λ locked. locked, λ locked. locked)
same_locks (Split left right spares) modulus faulty config = (λ locked. locked, λ locked. locked)

are_alike : (tree : Tree) (modulus : ℕ) → 0 < modulus → AreAlike tree modulus
are_alike tree modulus some = record {
  states = λ v state.
      (range_of_state tree modulus some v state, state_of_range tree modulus some v state);
  locks = same_locks tree modulus;
  at_bound = (
    λ locks faulty run borne is reaches.
        (same_locks tree modulus faulty _).0 (locks faulty run borne is reaches),
    λ locks faulty run borne is reaches.
        (same_locks tree modulus faulty _).1 (locks faulty run borne is reaches),
  );
  stays = λ faulty run from. (
    λ stays. record {
      locked = λ t le lt. (same_locks tree modulus faulty _).0 (stays.locked t le lt);
      counts = stays.counts;
    },
    λ stays. record {
      locked = λ t le lt. (same_locks tree modulus faulty _).1 (stays.locked t le lt);
      counts = stays.counts;
    },
  );
}

pub trees_are_machines : TreesAreMachines
trees_are_machines = are_alike
