-- What is read as a halving plan is its text, and what the text of any one is answered.
use Rattle.std.specs.Prelude.{◌≡◌, ℕ, ◌^◌, ◌<◌, List, ◌++◌, Option, Some, None, Result, Ok, Err}
use Rattle.std.specs.Prelude.{IfOk}
use Rattle.texts.specs.Lines.{lines_of}
use Rattle.texts.specs.Parts.{Found, At}
use Rattle.texts.specs.Words.{text_of}
use Rattle.part_lines.specs.TakenLines.{counting, Took}
use Rattle.halving_plan.specs.Plans.{HalvingNumbers, first_premise}
use Rattle.halving_plan.specs.declared.premises.HalvingPremise.{HalvingPremise}
use Rattle.halving_texts.specs.HalvingPart.{halving_of, whole_halving_of}
use Rattle.halving_texts.specs.HalvingTexts.{halving_text}
use Rattle.halving_texts.specs.declared.premises.LinePremise.{LinePremise}
use Rattle.halving_texts.specs.declared.premises.LinePremise.TheVariants as premise
use Rattle.read_texts.specs.Unskipped.{IsRefusedAlone}

-- What is read is what stands there: the lines that count, of those that the part took, are the
-- text of the plan.
abbrev pub ReadIsHalvingText : Type 0
ReadIsHalvingText = (input : List ℕ) → IfOk (halving_of input)
    (λ found. Took (lines_of input) found (λ said. text_of said ≡ halving_text found.value))

-- Alone, all lines that count are.
abbrev pub ReadIsWholeHalvingText : Type 0
ReadIsWholeHalvingText = (input : List ℕ) → IfOk (whole_halving_of input)
    (λ plan. text_of (counting (lines_of input)) ≡ halving_text plan)

-- What is no plan alone is refused at a line of its part, or by `form` at the first line behind the
-- part that is not skipped.
abbrev pub HalvingIsRefusedAlone : Type 0
HalvingIsRefusedAlone = (input : List ℕ) (at : At LinePremise) → whole_halving_of input ≡ Err at
    → IsRefusedAlone premise.Form 1 (halving_of input) at

-- the numbers have at most 15 digits each
pub record CanBeSaid (plan : HalvingNumbers) : Type 0 where
  pub nodes : plan.nodes < 10 ^ 15
  pub faults : plan.faults < 10 ^ 15
  pub modulus : plan.modulus < 10 ^ 15

-- what is found, unless the second line fails a premise
abbrev pub unless_failing : Option HalvingPremise → Found HalvingNumbers
    → Result (Found HalvingNumbers) (At LinePremise)
unless_failing None found = Ok found
unless_failing (Some p) found = Err (record { line = 2; rule = premise.Plan p })

-- The text of a plan is answered by the plan, or by its second line, with the first premise that
-- the plan fails.
abbrev pub HalvingTextIsAnswered : Type 0
HalvingTextIsAnswered = (plan : HalvingNumbers) (rest : List ℕ) → CanBeSaid plan
    → halving_of (halving_text plan ++ rest)
    ≡ unless_failing (first_premise plan)
    (record { value = plan; taken = 3; behind = lines_of rest })
