-- The counter of a text: that of a halving plan, or that of a plan of levels over blocks.
use Rattle.std.specs.Prelude.{◌≡◌, ℕ, ◌==◌, if◌then◌else◌, Bool, true, List, Option, Some, None}
use Rattle.std.specs.Prelude.{Result, Ok, Err}
use Rattle.texts.specs.Lines.{lines_of}
use Rattle.texts.specs.Parts.{At}
use Rattle.sync_types.specs.declared.answers.Premise.{Premise}
use Rattle.construction.specs.Plans.{Plan}
use Rattle.plan_reader.specs.PlanPart.{whole_plan_of}
use Rattle.plan_reader.specs.Skipped.{first_unskipped}
use Rattle.halving_plan.specs.Plans.{HalvingNumbers}
use Rattle.halving_texts.specs.declared.premises.LinePremise.{LinePremise}
use Rattle.halving_texts.specs.HalvingPart.{whole_halving_of}
use Rattle.machines.specs.Laws.{IsSound}
use Rattle.node_calls.specs.Machines.{machine_of}
use Rattle.node_calls.specs.declared.any_machines.AnyMachine.{AnyMachine}
use Rattle.node_calls.specs.declared.any_machines.AnyMachine.TheVariants.{Boosting, Halving}
use Rattle.node_calls.specs.declared.errors.CallError.{CallError}
use Rattle.node_calls.specs.Errors.{refused_at, halving_refused_at}

-- what follows an answer, if it is no error
abbrev pub and_then : {A B : Type 0} → Result A CallError → (A → Result B CallError)
    → Result B CallError
and_then (Ok value) next = next value
and_then (Err e) next = Err e

-- the plan of a text, or its first line that fails
abbrev pub plan_or_refused : Result Plan (At Premise) → Result Plan CallError
plan_or_refused (Ok plan) = Ok plan
plan_or_refused (Err at) = Err (refused_at at)

abbrev pub plan_answer : (text : List ℕ) → Result Plan CallError
plan_answer text = plan_or_refused (whole_plan_of text)

-- its counter
abbrev pub plan_counter : (text : List ℕ) → Result AnyMachine CallError
plan_counter text = and_then (plan_answer text) (λ plan. Ok (Boosting plan))

-- the line is the first one that counts, or no line does
abbrev pub is_first : Option ℕ → (line : ℕ) → Bool
is_first None line = true
is_first (Some first) line = first == line

-- the counter of a text by what it is as a halving plan: if its first line that counts is not that of
-- a halving plan, the text is read as a plan
abbrev pub counter_by : (first : Option ℕ) → (text : List ℕ)
    → Result HalvingNumbers (At LinePremise) → Result AnyMachine CallError
counter_by first text (Ok plan) = Ok (Halving plan)
counter_by first text (Err at) =
    if is_first first at.line then plan_counter text else Err (halving_refused_at at)

abbrev pub counter_answer : (text : List ℕ) → Result AnyMachine CallError
counter_answer text = counter_by (first_unskipped 1 (lines_of text)) text (whole_halving_of text)

-- Each text of a plan has the counter of that plan, of either construction, and the machine of each
-- counter of a text is sound.
pub record TextsHaveCounters : Type 0 where
  pub boosting : (text : List ℕ) (plan : Plan) → whole_plan_of text ≡ Ok plan
      → counter_answer text ≡ Ok (Boosting plan)
  pub halving : (text : List ℕ) (plan : HalvingNumbers) → whole_halving_of text ≡ Ok plan
      → counter_answer text ≡ Ok (Halving plan)
  pub sound : (text : List ℕ) (counter : AnyMachine) → counter_answer text ≡ Ok counter
      → IsSound (machine_of counter)
