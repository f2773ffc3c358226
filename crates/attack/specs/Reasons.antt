-- Why there is no attack on the plan of an input: the line that says so, and the exit code.
use Rattle.std.specs.Prelude.{ℕ, List, [], ◌∷◌, codes, decimal}
use Rattle.std.specs.List.{concat}
use Rattle.sync_types.specs.declared.answers.Premise.{Premise}
use Rattle.sync_types.specs.declared.answers.Premise.TheVariants as premise
use Rattle.halving_texts.specs.HalvingWords as halving
use Rattle.attack.specs.declared.reasons.AttackReason.{AttackReason}
use Rattle.attack.specs.declared.reasons.AttackReason.TheVariants as reason

abbrev pub usage_text : List ℕ
usage_text = codes "usage: attack SEED RUNS [KIND ..], or attack --help\n"

-- the word of a premise, as the words of `counterlab` have it
abbrev pub premise_word : Premise → List ℕ
premise_word premise.Form = codes "form"
premise_word premise.Limit = codes "limit"
premise_word premise.Blocks = codes "blocks"
premise_word premise.Modulus = codes "modulus"
premise_word premise.Quorum = codes "quorum"
premise_word premise.Share = codes "share"
premise_word premise.Multiple = codes "multiple"

abbrev pub plan_line : (line : ℕ) → Premise → List ℕ
plan_line line failed = concat (
    codes "refused plan line " ∷ decimal line
    ∷ codes " premise " ∷ premise_word failed
    ∷ codes "\n" ∷ [])

-- a plan that is refused has the line that the word `run` writes
abbrev pub reason_text : AttackReason → List ℕ
reason_text (reason.Boosting refusal) = plan_line refusal.line refusal.premise
reason_text (reason.Halving refusal) = halving.refusal_line refusal.line refusal.premise

-- the code is that of the word `run` for the same cause
abbrev pub code_for : AttackReason → ℕ
code_for (reason.Boosting refusal) = 1
code_for (reason.Halving refusal) = 1
