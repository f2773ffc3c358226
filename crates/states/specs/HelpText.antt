-- What is written for `--help` and `--version`.
use Rattle.std.specs.Prelude.{ℕ, List, [], ◌∷◌, codes}
use Rattle.std.specs.List.{concat}

abbrev pub help_text : List ℕ
help_text = concat (
    codes "usage: states < STATES\n"
    ∷ codes "Turns states of nodes from hex digits into words, and back. It reads a\n"
    ∷ codes "plan, a line `values V` for each register of a layer, and then lines\n"
    ∷ codes "`node V H` or `node V number X registers R, R`, and writes the other\n"
    ∷ codes "form of each.\n" ∷ [])

abbrev pub version_text : List ℕ
version_text = codes "states 2.0\n"
