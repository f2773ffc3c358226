-- What is read as a plan is the text of the plan.
use Rattle.std.specs.Prelude.{◌≡◌, ℕ, List, Err, IfOk}
use Rattle.texts.specs.Lines.{lines_of}
use Rattle.texts.specs.Parts.{At}
use Rattle.part_lines.specs.TakenLines.{counting, Took}
use Rattle.texts.specs.Words.{text_of}
use Rattle.sync_types.specs.declared.answers.Premise.{Premise}
use Rattle.sync_types.specs.declared.answers.Premise.TheVariants.{Form}
use Rattle.plan_reader.specs.PlanPart.{plan_of, whole_plan_of}
use Rattle.plan_reader.specs.PlanTexts.{plan_text}
use Rattle.read_texts.specs.Unskipped.{IsRefusedAlone}

-- What is read is what stands there: the lines that count, of those that the part took, are the
-- text of the plan in its version.
abbrev pub ReadIsPlanText : Type 0
ReadIsPlanText = (input : List ℕ) → IfOk (plan_of input)
    (λ found. Took (lines_of input) found
    (λ said. text_of said ≡ plan_text found.value.version found.value))

-- Alone, all lines that count are.
abbrev pub ReadIsWholePlanText : Type 0
ReadIsWholePlanText = (input : List ℕ) → IfOk (whole_plan_of input)
    (λ plan. text_of (counting (lines_of input)) ≡ plan_text plan.version plan)

-- What is no plan alone is refused at a line of its plan part, or by `form` at the first line
-- behind the part that is not skipped.
abbrev pub PlanIsRefusedAlone : Type 0
PlanIsRefusedAlone = (input : List ℕ) (at : At Premise) → whole_plan_of input ≡ Err at
    → IsRefusedAlone Form 1 (plan_of input) at
