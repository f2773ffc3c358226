-- What is written for `--help` and `--version`.
use Rattle.std.specs.Prelude.{ℕ, List, [], ◌∷◌, codes}
use Rattle.std.specs.List.{concat}

abbrev pub help_text : List ℕ
help_text = concat (
    codes "usage: sweep FIRST COUNT\n"
    ∷ codes "Reads a plan and a script from standard input, as counterlab run does,\n"
    ∷ codes "or a halving plan and a script, as halvinglab run does,\n"
    ∷ codes "plays the script with the keys of COUNT numbers from FIRST on,\n"
    ∷ codes "and writes the plan's bound, and for each era how many runs first lock\n"
    ∷ codes "with which configuration, and the least number of these. The key of a\n"
    ∷ codes "number is the number as 16 hex digits, with 48 zeros behind.\n"
    ∷ codes "Where standard error is a terminal, a line there says how far it is.\n" ∷ [])

abbrev pub version_text : List ℕ
version_text = codes "sweep 2.0\n"
