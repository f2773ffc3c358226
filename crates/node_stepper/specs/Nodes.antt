-- A node that is given packets: what it hears, its states, and what it writes.
use Rattle.std.specs.Prelude.{◌≡◌, ◌≢◌, ◌<◌, ℕ, ◌/◌, ◌%◌, ◌==◌, if◌then◌else◌, Bool, true, false}
use Rattle.std.specs.Prelude.{List, [], ◌∷◌, length, map, replicate, slice_set, slice_index_or}
use Rattle.std.specs.List.{flat_map, range_with_len}
use Rattle.sync_types.specs.States.{State, zero_state}
use Rattle.construction.specs.Steps.{state_of}
use Rattle.state_codec.specs.Writing.{written}
use Rattle.state_codec.specs.Reading.{read}
use Rattle.machines.specs.Machines.{Machine}

-- a cell: the length of its bytes in two bytes, the high one first, and the bytes
abbrev pub cell_text : List ℕ → List ℕ
cell_text bytes = length bytes / 256 ∷ length bytes % 256 ∷ bytes

-- ---- a node of a machine

module _ (m : Machine) where
  -- the cell of a state of node v
  abbrev pub state_cell : (v : ℕ) → State → List ℕ
  state_cell v s = cell_text (written (m.fields v) s)

  -- What node v in a state s hears of node u by a packet, which has a cell of each node: of itself
  -- its own state, and of another node the state that the bytes of its cell stand for.
  abbrev pub heard_of : (v : ℕ) → (s : State) → (packet : List (List ℕ)) → (u : ℕ) → State
  heard_of v s packet u = if u == v then s else read (m.fields u) (slice_index_or packet u [])

  -- what it hears of all nodes
  abbrev pub heard_in : (v : ℕ) → (s : State) → (packet : List (List ℕ)) → List State
  heard_in v s packet = map (heard_of v s packet) (range_with_len 0 m.nodes)

  -- its state after a packet
  abbrev pub state_after : (v : ℕ) → State → List (List ℕ) → State
  state_after v s packet = m.step v (heard_in v s packet)

  -- its state after packets
  abbrev pub state_behind : (v : ℕ) → State → List (List (List ℕ)) → State
  state_behind v s [] = s
  state_behind v s (packet ∷ packets) = state_behind v (state_after v s packet) packets

  -- its states: the first, and that after each packet
  abbrev pub states_of : (v : ℕ) → State → List (List (List ℕ)) → List State
  states_of v s [] = s ∷ []
  states_of v s (packet ∷ packets) = s ∷ states_of v (state_after v s packet) packets

  -- what it writes: the cell of each of its states
  abbrev pub node_text : (v : ℕ) → State → List (List (List ℕ)) → List ℕ
  node_text v s packets = flat_map (state_cell v) (states_of v s packets)

  -- nobody was heard
  abbrev pub nobody : List Bool
  nobody = replicate m.nodes false

-- ---- an engine

-- Where an engine stands: the node's counter and id, by place its own state and those that it heard
-- last of the others, and who was heard since its last step.
pub record Standing (M : Type 0) : Type 0 where
  pub counter : M
  pub id : ℕ
  pub states : List State
  pub since : List Bool

-- its own state
abbrev pub own : {M : Type 0} → Standing M → State
own e = state_of e.states e.id

-- which machine each counter is
module _ {M : Type 0} (machine : M → Machine) where
  -- an engine that has heard nothing
  abbrev pub begun : M → (id : ℕ) → State → Standing M
  begun counter id state =
      let m = machine counter in record {
        counter = counter;
        id = id;
        states = slice_set (replicate m.nodes (zero_state m.depth)) id state;
        since = nobody m;
      }

  -- it hears a cell of a node; one of its own is dropped
  abbrev pub hearing : Standing M → (sender : ℕ) → (bytes : List ℕ) → Standing M
  hearing e sender bytes =
      if sender == e.id then e
      else record e {
        states = slice_set e.states sender (read ((machine e.counter).fields sender) bytes);
        since = slice_set e.since sender true;
      }

  -- every other node was heard since the last step
  abbrev pub AllHeard : Standing M → Type 0
  AllHeard e = (u : ℕ) → u < (machine e.counter).nodes → u ≢ e.id
      → slice_index_or e.since u false ≡ true

  -- it steps from what it heard
  abbrev pub stepped : Standing M → Standing M
  stepped e = record e {
    states = slice_set e.states e.id ((machine e.counter).step e.id e.states);
    since = nobody (machine e.counter);
  }

  -- it forgets who was heard
  abbrev pub forgetting : Standing M → Standing M
  forgetting e = record e { since = nobody (machine e.counter) }
