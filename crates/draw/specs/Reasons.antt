-- Why there is no picture of an input: the line that says so, and the exit code.
use Rattle.std.specs.Prelude.{ℕ, List, [], ◌∷◌, codes}
use Rattle.std.specs.List.{concat}
use Rattle.draw.specs.declared.reasons.NoRun.{NoRun}

abbrev pub usage_text : List ℕ
usage_text = codes "usage: draw [--page], or draw --help\n"

-- the line of an input that is too long
abbrev pub too_long_line : List ℕ
too_long_line = codes "the input has more than 4294967296 bytes\n"

abbrev pub reason_text : NoRun → List ℕ
reason_text reason = concat (codes "no run to draw: " ∷ reason.said.items ∷ codes "\n" ∷ [])

-- the code of an input that is refused
abbrev pub code_for : NoRun → ℕ
code_for reason = 1
