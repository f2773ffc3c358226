-- Two configurations of one shape, and the bytes that hold one.
use Rattle.std.specs.Prelude.{◌≡◌, ◌<◌, ◌≤◌, ◌+◌, ℕ, zero, suc, List, length, map, replicate, take, drop}
use Rattle.std.specs.List.{range_with_len}
use Rattle.sync_types.specs.States.{State, zero_state}
use Rattle.construction.specs.Steps.{state_of}
use Rattle.state_codec.specs.Shapes.{Shape, fields_at, bytes_in, shape_nodes, IsShape}
use Rattle.state_codec.specs.Ranges.{InRange}
use Rattle.state_codec.specs.Writing.{written}
use Rattle.state_codec.specs.Reading.{read}

-- states of a shape: the current ones, which are read, and the next ones, which are written
pub record Pack : Type 0 where
  pub shape : Shape
  pub current : List State
  pub next : List State

-- so many zero states
abbrev pub zeros : Shape → (nodes : ℕ) → List State
zeros shape nodes = replicate nodes (zero_state shape.depth)

-- a state in range for each node
abbrev pub AreOfShape : Shape → List State → Type 0
AreOfShape shape states = (v : ℕ) → v < length states
    → InRange (fields_at shape v) (state_of states v)

-- ---- the bytes of a configuration

-- where the bytes of node v begin, one node's after the other's
unfoldable pub start_of : Shape → (v : ℕ) → ℕ
start_of shape zero = 0
start_of shape (suc v) = start_of shape v + bytes_in (fields_at shape v)

-- where those of each node begin, and where the last ones end
abbrev pub starts_of : Shape → (nodes : ℕ) → List ℕ
starts_of shape nodes = map (start_of shape) (range_with_len 0 (nodes + 1))

-- the bytes of node v
abbrev pub bytes_at : Shape → List ℕ → (v : ℕ) → List ℕ
bytes_at shape bytes v = take (bytes_in (fields_at shape v)) (drop (start_of shape v) bytes)

-- the state that they stand for
abbrev pub state_at : Shape → List ℕ → (v : ℕ) → State
state_at shape bytes v = read (fields_at shape v) (bytes_at shape bytes v)

-- the states of so many nodes
abbrev pub states_in : Shape → (nodes : ℕ) → List ℕ → List State
states_in shape nodes bytes = map (state_at shape bytes) (range_with_len 0 nodes)

-- the bytes of each node are those of its state, and eight more stand after them all
pub record AreHeld (shape : Shape) (nodes : ℕ) (bytes : List ℕ) : Type 0 where
  pub room : length bytes ≡ start_of shape nodes + 8
  pub whole : (v : ℕ) → v < nodes
      → bytes_at shape bytes v ≡ written (fields_at shape v) (state_at shape bytes v)

-- what two configurations keep: no more nodes than the shape has, where their bytes begin, and the
-- bytes of states
pub record IsPack (shape : Shape) (nodes : ℕ) (places first second : List ℕ) : Type 0 where
  pub sound : IsShape shape
  pub few : nodes ≤ shape_nodes shape
  pub most : nodes ≤ 256
  pub starts : places ≡ starts_of shape nodes
  pub current : AreHeld shape nodes first
  pub next : AreHeld shape nodes second
