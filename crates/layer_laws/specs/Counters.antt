-- What a layer asks of a counter.
use Rattle.std.specs.Prelude.{◌≡◌, ℕ, ◌*◌, ◌<◌, ◌≤◌, List, length, map}
use Rattle.sync_types.specs.States.{State}
use Rattle.construction.specs.Machines.{Settles}
use Rattle.counter_core.specs.Meanings.{Meaning, cut}
pub use Rattle.counter_core.specs.Runs.{Bears}

-- Registers after the counter's own stand apart: a step gives as many as the counter has, and
-- further ones change neither the step nor what a state shows.
pub record HasFront (counter : Meaning) : Type 0 where
  pub deep : (v : ℕ) (heard : List State) → v < counter.nodes
      → length (counter.next v heard).registers ≡ counter.depth
  pub next : (v : ℕ) (heard : List State) → v < counter.nodes → length heard ≡ counter.nodes
      → counter.next v (map (cut counter.depth) heard) ≡ counter.next v heard
  pub shows : (v : ℕ) (state : State) → v < counter.nodes
      → counter.shows v (cut counter.depth state) ≡ counter.shows v state

-- What a layer asks of a counter: more than three times as many nodes as may be faulty, states of
-- the counter's depth, outputs below the modulus, a step that gives a state of its node and does
-- not depend on further registers; and it counts from the bound on, whatever the start and the
-- lies, with each faulty set that it tolerates.
pub record IsSettling (counter : Meaning) (is_state : (v : ℕ) → State → Type 0) : Type 0 where
  pub quorum : 3 * counter.faults < counter.nodes
  pub least : 2 ≤ counter.modulus
  pub deep : (v : ℕ) (state : State) → v < counter.nodes → is_state v state
      → length state.registers ≡ counter.depth
  pub shown : (v : ℕ) (state : State) → v < counter.nodes → is_state v state
      → counter.shows v state < counter.modulus
  pub next : (v : ℕ) (heard : List State) → v < counter.nodes
      → is_state v (counter.next v heard)
  pub front : HasFront counter
  pub settles : Settles counter is_state
