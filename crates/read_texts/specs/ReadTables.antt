-- What is read as a slot table is the text of the table.
use Rattle.std.specs.Prelude.{◌≡◌, ℕ, List, IfOk}
use Rattle.part_lines.specs.TakenLines.{Took}
use Rattle.texts.specs.Words.{text_of}
use Rattle.slot_table.specs.SlotPart.{part_for}
use Rattle.slot_table.specs.SlotTexts.{slots_text}

-- What is read is what stands there: the lines that count, of those that the part took, are the
-- text of the table.
abbrev pub ReadIsTableText : Type 0
ReadIsTableText = (nodes modulus number : ℕ) (lines : List (List ℕ))
    → IfOk (part_for nodes modulus number lines)
    (λ found. Took lines found (λ said. text_of said ≡ slots_text found.value))
