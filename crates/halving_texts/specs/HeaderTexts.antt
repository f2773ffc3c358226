-- The text of a header of a node of a halving plan, which is read back.
use Rattle.std.specs.Prelude.{◌≡◌, ℕ, ◌<◌, List, ◌++◌, Bool, Ok}
use Rattle.texts.specs.Lines.{lines_of}
use Rattle.texts.specs.Limits.{room_of, behind_lines, longest_input}
use Rattle.sync_types.specs.States.{State}
use Rattle.machines.specs.Machines.{IsState}
use Rattle.node_words.specs.HeaderParts.{HeaderOf, header_in}
use Rattle.node_words.specs.WrittenHeaders.{PlanText, text_of_header, stated_header}
use Rattle.halving_plan.specs.Plans.{HalvingNumbers, IsAccepted}
use Rattle.halving_plan.specs.Laws.{machine_in}
use Rattle.halving_texts.specs.HalvingTexts.{halving_text}
use Rattle.halving_texts.specs.HalvingShapes.{halving_part}

-- a header has three lines of the plan, and four of the node
abbrev pub halving_writing : PlanText HalvingNumbers
halving_writing = record { text = λ plan. halving_text plan; lines = λ plan. 7 }

abbrev pub header_text : HalvingNumbers → (v : ℕ) → State → List ℕ
header_text plan v s = text_of_header halving_part halving_writing plan v s

-- the header that it states
abbrev pub header_stated : HalvingNumbers → (v : ℕ) → State → HeaderOf HalvingNumbers
header_stated plan v s = stated_header halving_part halving_writing plan v s

-- The header text of an accepted plan, a node of it and a state of that node is read as that
-- header, at the beginning of any text, also of one that is longer than a header may be.
abbrev pub HalvingHeaderTextIsRead : Type 0
HalvingHeaderTextIsRead = (plan : HalvingNumbers) → IsAccepted plan → (v : ℕ) → v < plan.nodes
    → (s : State) → IsState (machine_in plan) v s → (longer : Bool) (rest : List ℕ)
    → (header_in halving_part (room_of longer longest_input)
    (lines_of (header_text plan v s ++ rest))
    ≡ Ok (header_stated plan v s))
    × (behind_lines 7 (header_text plan v s ++ rest) ≡ rest)
