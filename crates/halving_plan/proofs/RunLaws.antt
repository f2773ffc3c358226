-- Trees settle, their configuration at the bound is locked, and locked ones stay so.
use Rattle.std.proofs.Common.{ℕ, ◌-◌, ◌≤◌, List, length, unwrap_or, refl, ap}
use Rattle.std.proofs.Common.{arith}
use Rattle.sync_types.specs.declared.states.Reg.{Reg}
use Rattle.sync_types.specs.States.{State}
use Rattle.counting.specs.Places.{places}
use Rattle.construction.specs.Steps.{state_of}
use Rattle.construction.specs.Runs.{is_in, configuration}
use Rattle.counter_core.proofs.ListsAndPlaces.{places_of_ids}
use Rattle.halving_plan.specs.Halves.{Halves, left_period, right_period}
use Rattle.halving_plan.specs.Level.{OneHalfIsSound, HalvesSettle, LockedStaysLocked}
use Rattle.halving_plan.specs.Trees.{Tree, One, Split, tree_nodes, tree_faults}
use Rattle.halving_plan.specs.Trees.{tree_bound, halves_of}
use Rattle.machines.specs.Machines.{Run, CountsFrom, IsToleratedBy}
use Rattle.halving_plan.specs.Runs.{machine_of}
use Rattle.halving_plan.proofs.Numbers.{three_faults, faults_of_tree, nodes_of_tree}
use Rattle.halving_plan.proofs.Numbers.{bound_of_tree}
use Rattle.halving_plan.proofs.Trees.{ten_each}
use Rattle.halving_plan.proofs.LevelStates.{state_back}
use Rattle.halving_plan.proofs.Ranges.{zero_is_state, step_is_state}
use Rattle.halving_plan.specs.TreeLaws.{HasQuorum, AreFast, LevelStatesAreRegisters}
use Rattle.halving_plan.specs.TreeLaws.{ZeroIsInRange}
use Rattle.halving_plan.specs.TreeLaws.{NextIsInRange, EveryTreeSettles}
use Rattle.halving_plan.specs.TreeLaws.{LocksAtBound, StaysLockedFrom, LockedRunsCount}
use Rattle.halving_plan.proofs.Places.{CountsIn}
use Rattle.halving_plan.proofs.Counting.{one_counts, tree_settles, locked_over, stays_over}
use Rattle.halving_plan.proofs.TreeRuns.{run_in}

pub every_tree_has_quorum : HasQuorum
every_tree_has_quorum tree = three_faults tree

pub trees_are_fast : AreFast
trees_are_fast f spares = record {
  faults = faults_of_tree f spares;
  nodes = nodes_of_tree f spares;
  bound = bound_of_tree f spares;
  each = ten_each f spares;
}

pub level_states_are_registers : LevelStatesAreRegisters
level_states_are_registers = record {
  read = λ level_state state. record { first = refl; rest = refl };
  written = state_back;
}

pub zero_is_in_range : ZeroIsInRange
zero_is_in_range tree modulus two v = zero_is_state tree modulus v (omega arith)

pub next_is_in_range : NextIsInRange
next_is_in_range tree modulus two v heard = step_is_state tree modulus v heard (omega arith)

-- faulty places are as few as the ids
few_places : (tree : Tree) (faulty : List ℕ) → length faulty ≤ tree_faults tree
    → places (is_in faulty) (tree_nodes tree) ≤ tree_faults tree
few_places tree faulty few = omega (arith, places_of_ids faulty (tree_nodes tree))

-- what counts by place counts over lists
counts_over : (tree : Tree) (modulus : ℕ) (faulty : List ℕ) (run : List (List State))
    → CountsIn tree modulus (is_in faulty) (length run - 1)
    (λ t v. state_of (configuration run t) v)
    → CountsFrom (machine_of tree modulus) faulty run (tree_bound tree)
counts_over tree modulus faulty run counts = record {
  output = counts.output;
  shows = λ t lo hi v lt correct. counts.shows t v lo (omega arith) lt correct;
  grows = λ t lo hi. counts.grows t lo (omega arith);
}

-- a locked configuration has one
one_stays : (modulus : ℕ) → 2 ≤ modulus → (faulty : List ℕ) (run : List (List State)) (from : ℕ)
    → IsToleratedBy (machine_of One modulus) faulty → Run (machine_of One modulus) faulty run
    → StaysLockedFrom One modulus faulty run from
one_stays modulus two faulty run from borne is =
    let counts = one_counts modulus (is_in faulty) (length run - 1)
    (λ t v. state_of (configuration run t) v) (few_places One faulty borne.few)
    (run_in One modulus faulty (omega (arith, two)) run is) in
    record {
      locked = λ t lo hi. tt;
      counts = record {
        output = counts.output;
        shows = λ t lo hi v lt correct. counts.shows t v (omega arith) (omega arith) lt correct;
        grows = λ t lo hi. counts.grows t (omega arith) (omega arith);
      };
    }

module _ (one_half : OneHalfIsSound) (settle : HalvesSettle) where
  pub every_tree_settles : EveryTreeSettles
  every_tree_settles tree modulus two faulty run borne is =
      counts_over tree modulus faulty run
      (tree_settles one_half settle tree modulus (is_in faulty) (length run - 1)
      (λ t v. state_of (configuration run t) v) (few_places tree faulty borne.few)
      (run_in tree modulus faulty (omega (arith, two)) run is))

  pub locks_at_bound : LocksAtBound
  locks_at_bound One modulus two faulty run borne is long = tt
  locks_at_bound (Split left right spares) modulus two faulty run borne is long =
      let tree : Tree = Split left right spares in
      let halves : Halves = halves_of left right spares in
      let stays = locked_over left right spares modulus (is_in faulty) (length run - 1)
      (λ t v. state_of (configuration run t) v) (few_places tree faulty borne.few)
      (run_in tree modulus faulty (omega (arith, two)) run is) one_half settle
      (tree_settles one_half settle left (left_period halves))
      (tree_settles one_half settle right (right_period halves)) in
      record {
        value = stays.value (tree_bound tree);
        each = stays.locked (tree_bound tree) (omega arith) (omega arith);
      }

pub locked_runs_count : LockedStaysLocked → LockedRunsCount
locked_runs_count stay One modulus two faulty run borne is from lt locked =
    one_stays modulus two faulty run from borne is
locked_runs_count stay (Split left right spares) modulus two faulty run borne is from lt locked =
    let tree : Tree = Split left right spares in
    let stays = stays_over left right spares modulus (is_in faulty) (length run - 1)
    (λ t v. state_of (configuration run t) v) (few_places tree faulty borne.few)
    (run_in tree modulus faulty (omega (arith, two)) run is) stay from locked.value locked.each in
    record {
      locked = λ t lo hi. record { value = stays.value t; each = stays.locked t lo (omega arith) };
      counts = record {
        output = stays.value;
        shows = λ t lo hi v vlt correct.
            ap (λ (r : Reg). unwrap_or r.a 0) (stays.locked t lo (omega arith) v vlt correct);
        grows = λ t lo hi. stays.grows t lo (omega arith);
      };
    }
