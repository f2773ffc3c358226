-- The line that a refusal writes, and its status.
use Rattle.std.specs.Prelude.{ℕ, List, [], ◌∷◌, codes, decimal}
use Rattle.std.specs.List.{concat}
use Rattle.sync_types.specs.declared.answers.Premise.{Premise}
use Rattle.sync_types.specs.declared.answers.Premise.TheVariants as premise
use Rattle.sync_types.specs.declared.answers.Cause.{Cause}
use Rattle.sync_types.specs.declared.answers.Cause.TheVariants as cause
use Rattle.sync_types.specs.declared.status.Status.{Status}
use Rattle.sync_types.specs.declared.status.Status.TheVariants as status
use Rattle.node_words.specs.Rules.{rule_word, part_word}
use Rattle.outcomes.specs.declared.refusals.Refusal.{Refusal}
use Rattle.outcomes.specs.declared.refusals.Refusal.TheVariants as refusal

abbrev pub premise_word : Premise → List ℕ
premise_word premise.Form = codes "form"
premise_word premise.Limit = codes "limit"
premise_word premise.Blocks = codes "blocks"
premise_word premise.Modulus = codes "modulus"
premise_word premise.Quorum = codes "quorum"
premise_word premise.Share = codes "share"
premise_word premise.Multiple = codes "multiple"

abbrev pub cause_word : Cause → List ℕ
cause_word (cause.Premise p) = premise_word p
cause_word cause.Value = codes "value"

-- the line of what fails for a reason
abbrev pub failed_line : (front : List ℕ) → (line : ℕ) → (kind reason : List ℕ) → List ℕ
failed_line front line kind reason =
    concat (front ∷ decimal line ∷ kind ∷ reason ∷ codes "\n" ∷ [])

abbrev pub refusal_line : Refusal → List ℕ
refusal_line refusal.Usage = codes "usage: counterlab COMMAND\n"
refusal_line (refusal.Plan line p) =
    failed_line (codes "refused plan line ") line (codes " premise ") (premise_word p)
refusal_line (refusal.Part p line r) =
    concat (codes "refused " ∷ part_word p ∷ codes " line " ∷ decimal line ∷ codes " rule "
    ∷ rule_word r ∷ codes "\n" ∷ [])
refusal_line (refusal.Certificate line) =
    concat (codes "refused certificate line " ∷ decimal line ∷ codes "\n" ∷ [])
refusal_line (refusal.Table line c) =
    failed_line (codes "refused table line ") line (codes " cause ") (cause_word c)

abbrev pub refusal_status : Refusal → Status
refusal_status refusal.Usage = status.Usage
refusal_status (refusal.Plan line p) = status.PlanRefused line p
refusal_status (refusal.Part p line r) = status.PartRefused p line r
refusal_status (refusal.Certificate line) = status.CertRefused line
refusal_status (refusal.Table line c) = status.TableRefused line c
