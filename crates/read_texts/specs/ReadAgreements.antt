-- What is read of consensus is its text.
use Rattle.std.specs.Prelude.{◌≡◌, ℕ, List, IfOk}
use Rattle.part_lines.specs.TakenLines.{Took}
use Rattle.texts.specs.Words.{text_of}
use Rattle.layer_laws.specs.Numbers.{Numbers}
use Rattle.consensus_layer.specs.AgreePart.{part_over}
use Rattle.consensus_layer.specs.AgreeTexts.{agree_text}

-- What is read is what stands there: the lines that count, of those that the part took, are the
-- text of what it says.
abbrev pub ReadIsAgreeText : Type 0
ReadIsAgreeText = (numbers : Numbers) (number : ℕ) (lines : List (List ℕ))
    → IfOk (part_over numbers number lines)
    (λ found. Took lines found (λ said. text_of said ≡ agree_text found.value))
