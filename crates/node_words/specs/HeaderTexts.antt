-- The text of a header of a plan, which is read back.
use Rattle.std.specs.Prelude.{◌≡◌, ℕ, ◌+◌, ◌<◌, List, ◌++◌, Bool, Ok}
use Rattle.texts.specs.Lines.{lines_of}
use Rattle.texts.specs.Limits.{room_of, behind_lines, longest_input}
use Rattle.sync_types.specs.States.{State}
use Rattle.construction.specs.Plans.{Plan, plan_nodes, plan_depth}
use Rattle.construction.specs.Runs.{IsState}
use Rattle.plan_numbers.specs.Premises.{IsAccepted}
use Rattle.plan_reader.specs.PlanTexts.{plan_text}
use Rattle.node_words.specs.Headers.{Header, header_in, plan_part}
use Rattle.node_words.specs.WrittenHeaders.{PlanText, text_of_header, stated_header}

-- a plan in its version; a header has a line for each level, three of the plan, four of the node
abbrev pub plan_writing : PlanText Plan
plan_writing = record {
  text = λ plan. plan_text plan.version plan;
  lines = λ plan. plan_depth plan + 7;
}

abbrev pub header_text : Plan → (v : ℕ) → State → List ℕ
header_text plan v s = text_of_header plan_part plan_writing plan v s

-- the header that it states
abbrev pub header_stated : Plan → (v : ℕ) → State → Header
header_stated plan v s = stated_header plan_part plan_writing plan v s

-- The header text of an accepted plan, a node of it and a state of that node is read as that
-- header, at the beginning of any text, also of one that is longer than a header may be.
abbrev pub HeaderTextIsRead : Type 0
HeaderTextIsRead = (plan : Plan) → IsAccepted plan → (v : ℕ) → v < plan_nodes plan → (s : State)
    → IsState plan v s → (longer : Bool) (rest : List ℕ)
    → (header_in (room_of longer longest_input) (lines_of (header_text plan v s ++ rest))
    ≡ Ok (header_stated plan v s))
    × (behind_lines (plan_depth plan + 7) (header_text plan v s ++ rest) ≡ rest)
