-- How the program is used. It refuses nothing that it is given but words, which is usage.
use Rattle.std.specs.Prelude.{ℕ, List, ◌++◌, codes}
use Rattle.sync_types.specs.Codes.{code_of}
use Rattle.sync_types.specs.declared.status.Status.TheVariants as status
use Rattle.choose.specs.declared.reasons.ChooseReason.{ChooseReason}

abbrev pub usage_text : List ℕ
usage_text =
    codes "usage: choose [boosting] FAULTS MODULUS [MOST_NODES] [plan], "
    ++ codes "choose within NODES BOUND MODULUS [plan], or choose --help\n"

abbrev pub reason_text : ChooseReason → List ℕ
reason_text reason = usage_text

abbrev pub code_for : ChooseReason → ℕ
code_for reason = code_of status.Usage
