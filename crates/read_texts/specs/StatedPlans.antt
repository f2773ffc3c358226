-- What the text of any plan is answered, accepted or not.
use Rattle.std.specs.Prelude.{◌≡◌, ℕ, ◌+◌, ◌^◌, ◌<◌, ◌≤◌, List, [], ◌∷◌, ◌++◌, length, All}
use Rattle.std.specs.Prelude.{Option, Some, None, Result, Ok, Err}
use Rattle.texts.specs.Lines.{lines_of}
use Rattle.texts.specs.Parts.{Found, At}
use Rattle.sync_types.specs.declared.answers.Premise.{Premise}
use Rattle.construction.specs.Plans.{Level, Plan, plan_depth}
use Rattle.plan_numbers.specs.Numbers.{below_of}
use Rattle.plan_numbers.specs.Premises.{base_premise, first_premise, FitsVersion}
use Rattle.plan_reader.specs.PlanPart.{plan_of}
use Rattle.plan_reader.specs.PlanTexts.{plan_text, in_version}

-- the numbers of a level have at most 15 digits each, and a line of the version says them all
pub record CanBeSaid (version : ℕ) (level : Level) : Type 0 where
  pub blocks : level.blocks < 10 ^ 15
  pub faults : level.faults < 10 ^ 15
  pub modulus : level.modulus < 10 ^ 15
  pub spares : level.spares < 10 ^ 15
  pub fits : FitsVersion version level

-- a plan that a text of that version says
pub record HasText (version : ℕ) (plan : Plan) : Type 0 where
  pub oldest : 1 ≤ version
  pub newest : version ≤ 2
  pub base : plan.base < 10 ^ 15
  pub levels : All (CanBeSaid version) plan.levels

-- a premise, if one fails, at the line with that number
abbrev pub at_line : ℕ → Option Premise → Option (At Premise)
at_line number None = None
at_line number (Some premise) = Some (record { line = number; rule = premise })

abbrev pub or_next : Option (At Premise) → Option (At Premise) → Option (At Premise)
or_next None next = next
or_next (Some at) next = Some at

-- The first level that fails a premise over those below it: the lowest one's line is the third.
abbrev pub first_level : (base : ℕ) → List Level → Option (At Premise)
first_level base [] = None
first_level base (level ∷ below) =
    or_next (first_level base below)
    (at_line (3 + length below) (first_premise (below_of base below) level))

-- the first line of a plan's text that fails a premise
abbrev pub first_failing : Plan → Option (At Premise)
first_failing plan =
    or_next (at_line 2 (base_premise plan.base)) (first_level plan.base plan.levels)

-- what is found, unless a line fails
abbrev pub unless_failing : Option (At Premise) → Found Plan → Result (Found Plan) (At Premise)
unless_failing None found = Ok found
unless_failing (Some at) found = Err at

-- The text of a plan is answered by the plan, or by its first line that fails a premise, with the
-- first premise that it fails.
abbrev pub PlanTextIsAnswered : Type 0
PlanTextIsAnswered = (plan : Plan) (version : ℕ) (rest : List ℕ) → HasText version plan
    → plan_of (plan_text version plan ++ rest)
    ≡ unless_failing (first_failing plan) (record {
      value = in_version version plan;
      taken = plan_depth plan + 3;
      behind = lines_of rest;
    })
