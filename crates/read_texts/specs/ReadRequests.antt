-- What is read as requests is their text.
use Rattle.std.specs.Prelude.{◌≡◌, ℕ, List, IfOk}
use Rattle.part_lines.specs.TakenLines.{Took}
use Rattle.texts.specs.Words.{text_of}
use Rattle.layer_laws.specs.Numbers.{Numbers}
use Rattle.firing.specs.FirePart.{part_over}
use Rattle.firing.specs.RequestTexts.{requests_text}

-- What is read is what stands there: the lines that count, of those that the part took, are the
-- text of the requests.
abbrev pub ReadIsRequestText : Type 0
ReadIsRequestText = (numbers : Numbers) (number : ℕ) (lines : List (List ℕ))
    → IfOk (part_over numbers number lines)
    (λ found. Took lines found (λ said. text_of said ≡ requests_text found.value))
