-- What holds of a sound machine: what a state shows is below the modulus; a step gives a state of
-- its node and does not depend on further registers; it settles, locks at its bound, and stays
-- locked.
use Rattle.std.specs.Prelude.{◌≡◌, ℕ, ◌*◌, ◌^◌, ◌<◌, ◌≤◌, List, length, map}
use Rattle.sync_types.specs.States.{State}
use Rattle.construction.specs.Runs.{configuration}
use Rattle.counter_core.specs.Meanings.{cut}
use Rattle.state_codec.specs.Shapes.{IsFields}
use Rattle.machines.specs.Machines.{Machine, IsState, Run, CountsFrom, IsToleratedBy, Settles}
use Rattle.machines.specs.Machines.{IsLocked}

module _ (machine : Machine) where
  -- registers after the machine's own, as a layer above it has them, change neither what a state
  -- shows nor the step
  pub record IgnoresFurther : Type 0 where
    pub shows : (v : ℕ) → v < machine.nodes → (state : State)
        → machine.shows v (cut machine.depth state) ≡ machine.shows v state
    pub step : (v : ℕ) → v < machine.nodes → (heard : List State)
        → length heard ≡ machine.nodes
        → machine.step v (map (cut machine.depth) heard) ≡ machine.step v heard

  -- In each run with a tolerated faulty set that reaches the bound, the configuration at the bound
  -- is locked.
  abbrev pub LocksAtBound : Type 0
  LocksAtBound =
      (faulty : List ℕ) (run : List (List State)) → IsToleratedBy machine faulty
      → Run machine faulty run → machine.bound < length run
      → IsLocked machine faulty (configuration run machine.bound)

  -- from a configuration on each one is locked, and the outputs count
  pub record StaysLockedFrom (faulty : List ℕ) (run : List (List State)) (from : ℕ) : Type 0 where
    pub locked : (t : ℕ) → from ≤ t → t < length run
        → IsLocked machine faulty (configuration run t)
    pub counts : CountsFrom machine faulty run from

  -- From any locked configuration on, before the bound too, whatever lies follow.
  abbrev pub LockedRunsCount : Type 0
  LockedRunsCount =
      (faulty : List ℕ) (run : List (List State)) → IsToleratedBy machine faulty
      → Run machine faulty run → (from : ℕ) → from < length run
      → IsLocked machine faulty (configuration run from) → StaysLockedFrom faulty run from

-- a machine that is sound
pub record IsSound (machine : Machine) : Type 0 where
  pub quorum : 3 * machine.faults < machine.nodes
  pub few : machine.nodes ≤ 256
  pub least_modulus : 2 ≤ machine.modulus
  pub most_modulus : machine.modulus ≤ 2 ^ 40
  pub fields : (v : ℕ) → v < machine.nodes → IsFields (machine.fields v)
  pub depth : (v : ℕ) → v < machine.nodes → length (machine.fields v).moduli ≡ machine.depth
  pub shown : (v : ℕ) → v < machine.nodes → (state : State) → IsState machine v state
      → machine.shows v state < machine.modulus
  pub next : (v : ℕ) → v < machine.nodes → (heard : List State)
      → IsState machine v (machine.step v heard)
  pub further : IgnoresFurther machine
  pub settles : Settles machine
  pub locks : LocksAtBound machine
  pub stays : LockedRunsCount machine
