-- The plan that an input is: a halving plan, or one of levels over blocks; or its first line that
-- fails.
use Rattle.std.specs.Prelude.{ℕ, ◌==◌, if◌then◌else◌, Bool, true, List, Option, Some, None}
use Rattle.std.specs.Prelude.{Result, Ok, Err}
use Rattle.texts.specs.Lines.{lines_of}
use Rattle.texts.specs.Parts.{At}
use Rattle.sync_types.specs.declared.answers.Premise.{Premise}
use Rattle.construction.specs.Plans.{Plan}
use Rattle.plan_reader.specs.PlanPart.{whole_plan_of}
use Rattle.plan_reader.specs.Skipped.{first_unskipped}
use Rattle.halving_plan.specs.Plans.{HalvingNumbers}
use Rattle.halving_texts.specs.declared.premises.LinePremise.{LinePremise}
use Rattle.halving_texts.specs.HalvingPart.{whole_halving_of}
use Rattle.attack.specs.declared.plans.AnyPlan.{AnyPlan}
use Rattle.attack.specs.declared.plans.AnyPlan.TheVariants as plan
use Rattle.attack.specs.declared.reasons.AttackReason.{AttackReason}
use Rattle.attack.specs.declared.reasons.AttackReason.TheVariants as reason

-- the refusal of a line of a plan of levels over blocks, and of one of a halving plan
abbrev pub refused_at : At Premise → AttackReason
refused_at at = reason.Boosting (record { line = at.line; premise = at.rule })

abbrev pub halving_refused_at : At LinePremise → AttackReason
halving_refused_at at = reason.Halving (record { line = at.line; premise = at.rule })

-- a plan of levels over blocks, or its first line that fails
abbrev pub boosting_or_refused : Result Plan (At Premise) → Result AnyPlan AttackReason
boosting_or_refused (Ok own) = Ok (plan.Boosting own)
boosting_or_refused (Err at) = Err (refused_at at)

abbrev pub boosting_answer : (text : List ℕ) → Result AnyPlan AttackReason
boosting_answer text = boosting_or_refused (whole_plan_of text)

-- the line is the first one that counts, or no line does
abbrev pub is_first : Option ℕ → (line : ℕ) → Bool
is_first None line = true
is_first (Some first) line = first == line

-- by what a text is as a halving plan: if its first line that counts is not that of a halving plan,
-- it is read as one of levels over blocks
abbrev pub plan_by : (first : Option ℕ) → (text : List ℕ)
    → Result HalvingNumbers (At LinePremise) → Result AnyPlan AttackReason
plan_by first text (Ok own) = Ok (plan.Halving own)
plan_by first text (Err at) =
    if is_first first at.line then boosting_answer text else Err (halving_refused_at at)

abbrev pub plan_answer : (text : List ℕ) → Result AnyPlan AttackReason
plan_answer text = plan_by (first_unskipped 1 (lines_of text)) text (whole_halving_of text)
