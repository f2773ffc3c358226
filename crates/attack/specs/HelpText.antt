-- What is written for `--help` and `--version`.
use Rattle.std.specs.Prelude.{ℕ, List, [], ◌∷◌, codes}
use Rattle.std.specs.List.{concat}

abbrev pub help_text : List ℕ
help_text = concat (
    codes "usage: attack SEED RUNS [KIND ..] < PLAN\n"
    ∷ codes "Reads a plan, or a halving plan, tries RUNS attacks on it, and writes the\n"
    ∷ codes "plan and the attack that locks latest, as a script for it, which\n"
    ∷ codes "counterlab run or halvinglab run plays. A line on standard error says\n"
    ∷ codes "which configuration of it is the first locked one, and the bound.\n"
    ∷ codes "The attacks are drawn from SEED, and of these kinds, or of all.\n" ∷ [])

abbrev pub version_text : List ℕ
version_text = codes "attack 2.0\n"
