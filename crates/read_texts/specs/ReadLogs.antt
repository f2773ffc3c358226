-- What is read of a log is its text.
use Rattle.std.specs.Prelude.{◌≡◌, ℕ, List, IfOk}
use Rattle.part_lines.specs.TakenLines.{Took}
use Rattle.texts.specs.Words.{text_of}
use Rattle.layer_laws.specs.Numbers.{Numbers}
use Rattle.replicated_log.specs.LogPart.{part_over}
use Rattle.replicated_log.specs.LogTexts.{log_text}

-- What is read is what stands there: the lines that count, of those that the part took, are the
-- text of what it says.
abbrev pub ReadIsLogText : Type 0
ReadIsLogText = (numbers : Numbers) (number : ℕ) (lines : List (List ℕ))
    → IfOk (part_over numbers number lines)
    (λ found. Took lines found (λ said. text_of said ≡ log_text found.value))
