-- Why the program refuses what it is given: the line that says so, and the exit code.
use Rattle.std.specs.Prelude.{ℕ, List, [], ◌∷◌, codes, decimal}
use Rattle.std.specs.List.{concat}
use Rattle.sync_types.specs.Codes.{code_of}
use Rattle.sync_types.specs.declared.status.Status.TheVariants as status
use Rattle.halving_runs.specs.RunTexts.{refusal_code}
use Rattle.halvinglab.specs.declared.reasons.LabReason.{LabReason}
use Rattle.halvinglab.specs.declared.reasons.LabReason.TheVariants as reason

abbrev pub usage_text : List ℕ
usage_text =
    codes "usage: halvinglab plan, run, slots, consensus, fire, log or node, or halvinglab --help\n"

-- the line of an input that is too long: all of it, or a node's header, or its packets
abbrev pub long_text : List ℕ
long_text = codes "the input is too long\n"

-- Of an input that is refused the answer has the line, and there is no other.
abbrev pub reason_text : LabReason → List ℕ
reason_text (reason.Input refused) = []
reason_text (reason.Cut packet sender) = concat (
    codes "the input ends in packet " ∷ decimal packet
    ∷ codes ", in the cell of node " ∷ decimal sender
    ∷ codes "\n" ∷ [])

-- the code is 1 of a refused plan, and else that of `counterlab`'s status for the same cause
abbrev pub code_for : LabReason → ℕ
code_for (reason.Input refused) = refusal_code refused
code_for (reason.Cut packet sender) = code_of (status.Cut packet sender)
