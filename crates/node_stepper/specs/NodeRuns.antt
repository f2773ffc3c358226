-- Nodes of a machine over packets, and that they are connected: each of them hears the states of
-- the correct ones.
use Rattle.std.specs.Prelude.{◌≡◌, ◌≢◌, ℕ, ◌+◌, ◌<◌, ◌≤◌, List, [], length, map, take}
use Rattle.std.specs.Prelude.{slice_index_or, false}
use Rattle.std.specs.List.{range_with_len}
use Rattle.sync_types.specs.States.{State}
use Rattle.construction.specs.Runs.{is_in}
use Rattle.state_codec.specs.Reading.{read}
use Rattle.machines.specs.Machines.{Machine, IsState}
use Rattle.node_stepper.specs.Nodes.{state_behind}

-- the state in which each node begins, and the packets that it is given, with a cell of each node
pub record Nodes : Type 0 where
  pub starts : ℕ → State
  pub packets : ℕ → List (List (List ℕ))

-- the cell of node u in packet t of node v
abbrev pub cell_given : Nodes → (t v u : ℕ) → List ℕ
cell_given nodes t v u = slice_index_or (slice_index_or (nodes.packets v) t []) u []

-- a node of the machine that is not faulty
abbrev pub IsCorrect : Machine → (faulty : List ℕ) → (v : ℕ) → Type 0
IsCorrect m faulty v = (v < m.nodes) × (is_in faulty v ≡ false)

-- there is such a node
abbrev pub SomeIsCorrect : Machine → (faulty : List ℕ) → Type 0
SomeIsCorrect m faulty = (v : ℕ) × IsCorrect m faulty v

-- the state of node v after t packets
abbrev pub state_at : Machine → Nodes → (t v : ℕ) → State
state_at m nodes t v = state_behind m v (nodes.starts v) (take t (nodes.packets v))

-- A window of rounds begins at a packet of its own in each node, `begins v` in node v, since each
-- counts its packets from when it was started; from there on a packet is a round in all of them.
module _ (m : Machine) (nodes : Nodes) (begins : ℕ → ℕ) where
  -- the state of node v after i rounds of the window
  abbrev pub state_in : (i v : ℕ) → State
  state_in i v = state_at m nodes (begins v + i) v

  -- the states of all nodes then
  abbrev pub states_in : (i : ℕ) → List State
  states_in i = map (state_in i) (range_with_len 0 m.nodes)

-- Each correct node begins in a state of its own, and has packets for so many rounds. In each round
-- the cell of each other correct node is read as the state of that one after as many rounds, as it
-- is if that one wrote it. The cells of faulty nodes are any bytes, and so are all cells of the
-- packets before the window.
pub record AreConnected (m : Machine) (faulty : List ℕ) (nodes : Nodes) (begins : ℕ → ℕ)
    (rounds : ℕ) : Type 0 where
  pub starts : (v : ℕ) → IsCorrect m faulty v → IsState m v (nodes.starts v)
  pub enough : (v : ℕ) → IsCorrect m faulty v → begins v + rounds ≤ length (nodes.packets v)
  pub cells : (i v u : ℕ) → i < rounds → IsCorrect m faulty v → IsCorrect m faulty u → u ≢ v
      → read (m.fields u) (cell_given nodes (begins v + i) v u) ≡ state_in m nodes begins i u
