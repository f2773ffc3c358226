-- The text of a slot table, which is read back.
use Rattle.std.specs.Prelude.{◌≡◌, ℕ, ◌+◌, ◌^◌, ◌≤◌, List, [], ◌∷◌, ◌++◌, length, map, Ok, codes}
use Rattle.std.specs.Prelude.{decimal}
use Rattle.texts.specs.Lines.{lines_of}
use Rattle.texts.specs.Words.{joined, text_of}
use Rattle.construction.specs.Plans.{Plan}
use Rattle.plan_numbers.specs.Premises.{IsAccepted}
use Rattle.slot_table.specs.declared.lines.SlotLine.{SlotLine}
use Rattle.slot_table.specs.SlotPart.{part_for, part_of, IsTable, AreFor}

-- the words of a line
abbrev pub slot_words : SlotLine → List (List ℕ)
slot_words line =
    codes "slot" ∷ decimal line.node ∷ decimal line.first ∷ decimal line.last ∷ []

abbrev pub slot_text : SlotLine → List ℕ
slot_text line = joined (slot_words line)

-- the part that says a table
abbrev pub slots_text : List SlotLine → List ℕ
slots_text lines = text_of (codes "slots 1" ∷ (map slot_text lines ++ codes "end" ∷ []))

-- The text of a table is read as this table, whatever text follows.
abbrev pub TableTextIsRead : Type 0
TableTextIsRead = (nodes modulus : ℕ) → nodes ≤ 2 ^ 40 → modulus ≤ 2 ^ 40
    → (lines : List SlotLine) → IsTable nodes modulus lines
    → (number : ℕ) (rest : List ℕ)
    → part_for nodes modulus number (lines_of (slots_text lines ++ rest))
    ≡ Ok (record { value = lines; taken = length lines + 2; behind = lines_of rest })

-- The text of a table for an accepted plan is read as this table, whatever text follows.
abbrev pub SlotTextIsRead : Type 0
SlotTextIsRead = (plan : Plan) → IsAccepted plan → (lines : List SlotLine) → AreFor plan lines
    → (number : ℕ) (rest : List ℕ)
    → part_of plan number (lines_of (slots_text lines ++ rest))
    ≡ Ok (record { value = lines; taken = length lines + 2; behind = lines_of rest })
