-- The pairs of a round, and what was told for the first of them. There is room for so many pairs.
use Rattle.std.specs.Prelude.{◌≡◌, ℕ, ◌-◌, ◌≤◌, ◌<◌, ◌*◌, List, [], ◌∷◌, ◌++◌, length, All, Bool}
use Rattle.std.specs.Prelude.{true, false, slice_index_or}
use Rattle.sync_types.specs.States.{State}
use Rattle.construction.specs.Plans.{Plan, plan_nodes, plan_faults}
use Rattle.state_codec.specs.Shapes.{Fields, Shape, fields_at, bytes_in, shape_nodes}
use Rattle.state_codec.specs.Texts.{is_state_text, read_text}

pub record Telling : Type 0 where
  pub pairs : List (ℕ × ℕ)
  pub shape : Shape
  pub states : List State
  pub room : ℕ

-- the most pairs that the faulty nodes of an era have
abbrev pub most_pairs : Plan → ℕ
most_pairs plan = plan_faults plan * (plan_nodes plan - plan_faults plan)

-- how many digits the sender of a pair tells
abbrev pub room_of : Shape → ℕ × ℕ → ℕ
room_of shape pair = 2 * bytes_in (fields_at shape pair.0)

-- the states of the digits that were told for the first of the pairs
abbrev pub states_read : Shape → List (ℕ × ℕ) → List (List ℕ) → List State
states_read shape [] texts = []
states_read shape (pair ∷ pairs) [] = []
states_read shape (pair ∷ pairs) (text ∷ texts) =
    read_text (fields_at shape pair.0) text ∷ states_read shape pairs texts

-- what it keeps: there is room for what each pair tells, whichever pairs there are
pub record IsTelling (shape : Shape) (pairs : List (ℕ × ℕ)) (texts : List (List ℕ))
    (count capacity : ℕ) : Type 0 where
  pub fits : count ≤ length pairs
  pub many : length pairs ≤ length texts
  pub room : length texts ≤ capacity
  pub senders : All (λ pair. pair.0 < shape_nodes shape) pairs
  pub short : (v : ℕ) → bytes_in (fields_at shape v) ≤ 32
  pub rooms : (k : ℕ) → k < length pairs
      → length (slice_index_or texts k []) ≡ room_of shape (slice_index_or pairs k (0, 0))

-- the fields of the sender of the next pair
abbrev pub next_fields : Telling → Fields
next_fields t = fields_at t.shape (slice_index_or t.pairs (length t.states) (0, 0)).0

-- another state was told, or the digits are those of no state, and nothing changed
abbrev pub AddsState : (digits : List ℕ) → (old new : Telling) → Bool → Type 0
AddsState digits old new true = (is_state_text (next_fields old) digits ≡ true)
    × (new ≡ record old { states = old.states ++ read_text (next_fields old) digits ∷ [] })
AddsState digits old new false = (is_state_text (next_fields old) digits ≡ false) × (new ≡ old)
