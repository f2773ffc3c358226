-- That each of the two lines of a state is turned into the other one.
use Rattle.std.specs.Prelude.{◌≡◌, ℕ, ◌<◌, ◌≤◌, nat_lt, ◌||◌, true, List, Ok}
use Rattle.sync_types.specs.States.{State}
use Rattle.state_codec.specs.Shapes.{Fields, Shape, IsShape, shape_nodes, fields_at}
use Rattle.state_codec.specs.Ranges.{InRange}
use Rattle.states.specs.StateTexts.{worded, in_digits}
use Rattle.states.specs.StateWords.{has_register}
use Rattle.states.specs.Turned.{line_turned}

-- a number that says something, or a register
abbrev pub HasField : Fields → Type 0
HasField fields = (nat_lt 1 fields.base || has_register fields.moduli) ≡ true

-- The two lines of a state of node v: that in digits is turned into that in words, and back, if the
-- node has a field.
pub record TurnsBoth (shape : Shape) (v : ℕ) (state : State) : Type 0 where
  pub from_digits : line_turned shape (in_digits (fields_at shape v) v state)
      ≡ Ok (worded (fields_at shape v) v state)
  pub from_words : HasField (fields_at shape v)
      → line_turned shape (worded (fields_at shape v) v state)
      ≡ Ok (in_digits (fields_at shape v) v state)

-- of each node of a shape, and each state of it
abbrev pub EachIsTurned : Type 0
EachIsTurned = (shape : Shape) (v : ℕ) (state : State) → IsShape shape
    → shape_nodes shape ≤ 256 → v < shape_nodes shape → InRange (fields_at shape v) state
    → TurnsBoth shape v state

-- A line that a line is turned into is one that is turned, if each node has a field.
abbrev pub EachIsTurnedAgain : Type 0
EachIsTurnedAgain = (shape : Shape) → IsShape shape → shape_nodes shape ≤ 256
    → ((v : ℕ) → v < shape_nodes shape → HasField (fields_at shape v))
    → (line other : List ℕ) → line_turned shape line ≡ Ok other
    → (back : List ℕ) × (line_turned shape other ≡ Ok back)
