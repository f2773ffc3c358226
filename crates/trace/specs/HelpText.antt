-- What is written for `--help` and `--version`.
use Rattle.std.specs.Prelude.{ℕ, List, [], ◌∷◌, codes}
use Rattle.std.specs.List.{concat}

abbrev pub help_text : List ℕ
help_text = concat (
    codes "usage: trace FROM TO [NODE ..] < PLAN_AND_SCRIPT\n"
    ∷ codes "Plays a script on the counter of its plan, as counterlab run does, or of\n"
    ∷ codes "its halving plan, as halvinglab run does, and writes of each configuration\n"
    ∷ codes "from FROM to TO what the nodes hold, and what they make of what they\n"
    ∷ codes "hear: of all nodes, or of these.\n" ∷ [])

abbrev pub version_text : List ℕ
version_text = codes "trace 2.0\n"
