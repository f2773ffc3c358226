-- What is written for `--help` and `--version`.
use Rattle.std.specs.Prelude.{ℕ, List, [], ◌∷◌, codes}
use Rattle.std.specs.List.{concat}

abbrev pub help_text : List ℕ
help_text = concat (
    codes "usage: choose [boosting] FAULTS MODULUS [MOST_NODES] [plan]\n"
    ∷ codes "       choose within NODES BOUND MODULUS [plan]\n"
    ∷ codes "Writes the front of nodes and bound of the plans that tolerate FAULTS\n"
    ∷ codes "faults or more (0 to 85), count by MODULUS (2 to 2^40) and have at\n"
    ∷ codes "most MOST_NODES nodes (1 to 256; left out 256): a line for each plan,\n"
    ∷ codes "with more nodes and a lesser bound than the one before, or none.\n"
    ∷ codes "boosting: of the plans of counterlab alone, not of halvinglab.\n"
    ∷ codes "plan: the plan of the last line alone, in lines.\n"
    ∷ codes "within: a plan that tolerates the most faults of all plans with at most\n"
    ∷ codes "NODES nodes (1 to 256) and a bound of at most BOUND rounds.\n" ∷ [])

abbrev pub version_text : List ℕ
version_text = codes "choose 2.0\n"
