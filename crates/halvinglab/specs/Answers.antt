-- What the words write that read all of the input: the table of its plan, or its run, or the line
-- of its refusal.
use Rattle.std.specs.Prelude.{◌≡◌, ℕ, List, Result, Ok, Err}
use Rattle.texts.specs.Growth.{SinkState, Wrote, Cut}
use Rattle.texts.specs.Parts.{At}
use Rattle.program_words.specs.Conduct.{IsText}
use Rattle.program_words.specs.declared.errors.ProgramError.{ProgramError}
use Rattle.program_words.specs.declared.errors.ProgramError.TheVariants as error
use Rattle.halving_plan.specs.Plans.{HalvingNumbers}
use Rattle.halving_texts.specs.declared.premises.LinePremise.{LinePremise}
use Rattle.halving_texts.specs.HalvingPart.{whole_halving_of}
use Rattle.halving_texts.specs.Tables.{table_text}
use Rattle.halving_runs.specs.declared.errors.RunRefusal.{RunRefusal}
use Rattle.halving_runs.specs.declared.errors.RunRefusal.TheVariants as refusal
use Rattle.halving_runs.specs.RunTexts.{refusal_line, run_of, text_of}
use Rattle.halvinglab.specs.declared.reasons.LabReason.{LabReason}
use Rattle.halvinglab.specs.declared.reasons.LabReason.TheVariants as reason
use Rattle.halvinglab.specs.declared.requests.Whole.{Whole}
use Rattle.halvinglab.specs.declared.requests.Whole.TheVariants as whole

-- the table of a plan, or the refusal of its first line that fails
abbrev pub table_of : Result HalvingNumbers (At LinePremise) → Result (List ℕ) RunRefusal
table_of (Ok plan) = Ok (table_text plan)
table_of (Err at) = Err (refusal.Plan at.line at.rule)

-- what a word answers an input by
abbrev pub answer_of : Whole → (input : List ℕ) → Result (List ℕ) RunRefusal
answer_of whole.Plan input = table_of (whole_halving_of input)
answer_of (whole.Play shown) input = run_of shown input

-- What was written of an answer: its text; or the line of the refusal that it is; or a prefix of
-- one of these; or nothing, since memory was refused.
abbrev pub WritesAnswer : {T : Type 0} → (answer : Result (List ℕ) RunRefusal)
    → Result T (ProgramError LabReason) → (old new : SinkState) → Type 0
WritesAnswer answer (Ok value) old new = IsText answer (λ text. Wrote text old new)
WritesAnswer answer (Err (error.Refused (reason.Input refused))) old new =
    (answer ≡ Err refused) × Wrote (refusal_line refused) old new
WritesAnswer answer (Err error.WriteFault) old new = Cut (text_of answer) old new
WritesAnswer answer (Err error.NoMemory) old new = new ≡ old
WritesAnswer answer (Err other) old new = ⊥
