-- The text of a header of any construction.
use Rattle.std.specs.Prelude.{◌≡◌, ℕ, ◌<◌, List, [], ◌∷◌, ◌++◌, Bool, Ok, codes, decimal}
use Rattle.std.specs.List.{concat}
use Rattle.texts.specs.Lines.{lines_of}
use Rattle.texts.specs.Limits.{room_of, behind_lines, longest_input}
use Rattle.sync_types.specs.States.{State}
use Rattle.state_codec.specs.Shapes.{Shape, fields_at, shape_nodes}
use Rattle.state_codec.specs.Ranges.{InRange}
use Rattle.state_codec.specs.Texts.{written_text}
use Rattle.node_words.specs.HeaderParts.{PlanPart, HeaderOf, header_in}

-- the digits of a state of node v
abbrev pub digits_in : Shape → (v : ℕ) → State → List ℕ
digits_in shape v s = written_text (fields_at shape v) s

-- the part of node v in a state
abbrev pub node_part_in : Shape → (v : ℕ) → State → List ℕ
node_part_in shape v s = concat (
    codes "node 1\n"
    ∷ codes "id " ∷ decimal v ∷ codes "\n"
    ∷ codes "state " ∷ digits_in shape v s ∷ codes "\n"
    ∷ codes "end\n" ∷ [])

-- how a plan is written, and how many lines a header with it has
pub record PlanText (Plan : Type 0) : Type 0 where
  pub text : Plan → List ℕ
  pub lines : Plan → ℕ

-- of plans that are read and written so
module _ {Reader Plan Premise : Type 0} (plans : PlanPart Reader Plan Premise)
    (writing : PlanText Plan) where
  abbrev pub text_of_header : Plan → (v : ℕ) → State → List ℕ
  text_of_header plan v s = writing.text plan ++ node_part_in (plans.shape plan) v s

  -- the header that it states
  abbrev pub stated_header : Plan → (v : ℕ) → State → HeaderOf Plan
  stated_header plan v s =
      record { plan = plan; node = record { id = v; state = s }; lines = writing.lines plan }

  -- The text of the header of an accepted plan, a node of it and a state of that node is read as
  -- that header, at the beginning of any text, also of one that is longer than a header may be.
  abbrev pub AreReadBack : (Accepted : Plan → Type 0) → Type 0
  AreReadBack Accepted = (plan : Plan) → Accepted plan
      → (v : ℕ) → v < shape_nodes (plans.shape plan)
      → (s : State) → InRange (fields_at (plans.shape plan) v) s → (longer : Bool) (rest : List ℕ)
      → (header_in plans (room_of longer longest_input) (lines_of (text_of_header plan v s ++ rest))
      ≡ Ok (stated_header plan v s))
      × (behind_lines (writing.lines plan) (text_of_header plan v s ++ rest) ≡ rest)
