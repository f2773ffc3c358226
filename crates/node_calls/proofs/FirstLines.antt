-- A text that is read as a plan has the counter of that plan: as a halving plan, it fails at its
-- first line that counts.
use Rattle.std.proofs.Common.{◌≡◌, ℕ, ◌+◌, Bool, true, false, List, [], ◌∷◌, length, Option, Some}
use Rattle.std.proofs.Common.{None, Result, Ok, Err, refl, sym, ap, ◌∙◌, subst}
use Rattle.std.specs.Prelude.{nat_lt, not, ◌||◌, if◌then◌else◌, codes}
use Rattle.std.specs.Str.{bytes_eq}
use Rattle.std.proofs.lemmas.Bool.{eq-eqb}
use Rattle.std.proofs.lemmas.Slice.Eq.{bytes_eq-Decides}
use Rattle.texts.specs.Lines.{lines_of, is_well_parted}
use Rattle.texts.specs.Parts.{Next, goes, ends, refuses, is_skipped, with_skips, Found, At}
use Rattle.texts.specs.Parts.{part_from}
use Rattle.sync_types.specs.declared.answers.Premise.{Premise}
use Rattle.sync_types.specs.declared.answers.Premise.TheVariants as premise
use Rattle.construction.specs.Plans.{Plan}
use Rattle.plan_reader.specs.Skipped.{first_unskipped}
use Rattle.plan_reader.specs.declared.stages.PlanStage.{PlanStage}
use Rattle.plan_reader.specs.declared.stages.PlanStage.TheVariants as plan_stage
use Rattle.plan_reader.specs.PlanPart.{version_of, begins, plan_step, plan_of, whole_plan_of}
use Rattle.plan_reader.specs.PlanPart.{alone as plan_alone}
use Rattle.halving_plan.specs.Plans.{HalvingNumbers}
use Rattle.halving_texts.specs.declared.premises.LinePremise.{LinePremise}
use Rattle.halving_texts.specs.declared.premises.LinePremise.TheVariants as line_premise
use Rattle.halving_texts.specs.declared.stages.HalvingStage.{HalvingStage}
use Rattle.halving_texts.specs.declared.stages.HalvingStage.TheVariants as halving_stage
use Rattle.halving_texts.specs.HalvingPart.{halving_step, halving_of, alone}
use Rattle.node_calls.specs.declared.any_machines.AnyMachine.{AnyMachine}
use Rattle.node_calls.specs.declared.any_machines.AnyMachine.TheVariants.{Boosting}
use Rattle.node_calls.specs.declared.errors.CallError.{CallError}
use Rattle.node_calls.specs.Counters.{and_then, plan_or_refused, plan_counter, counter_by}
use Rattle.node_calls.specs.Counters.{counter_answer, TextsHaveCounters}
use Rattle.node_calls.proofs.Counters.{of_halving, sound_of}

-- the line `halving 1` names no version of a plan
apart : (line : List ℕ) → bytes_eq line (codes "halving 1") ≡ true → version_of line ≡ None
apart line h =
    subst (λ (l : List ℕ). version_of l ≡ None)
    (sym ((bytes_eq-Decides line (codes "halving 1")).0 h)) refl

-- a halving plan is refused, at the first line that counts
abbrev FailsFirst : Option ℕ → Result (Found HalvingNumbers) (At LinePremise) → Type 0
FailsFirst first (Ok found) = ⊥
FailsFirst first (Err at) = first ≡ Some at.line

module _ (lines : List (List ℕ)) (taken number : ℕ) (found : Found Plan) where
  -- what is read by what a line does
  abbrev plan_on : Next PlanStage Plan Premise → Result (Found Plan) (At Premise)
  plan_on next = elim next as (λ _. Result (Found Plan) (At Premise)) [
    | goes t ↦ part_from (with_skips plan_step premise.Form) premise.Form t (taken + 1) (number + 1)
        lines
    | ends v ↦ Ok (record { value = v; taken = taken + 1; behind = lines })
    | refuses r ↦ Err (record { line = number; rule = r })
  ]

  abbrev halving_on : Next HalvingStage HalvingNumbers LinePremise
      → Result (Found HalvingNumbers) (At LinePremise)
  halving_on next = elim next as (λ _. Result (Found HalvingNumbers) (At LinePremise)) [
    | goes t ↦ part_from (with_skips halving_step line_premise.Form) line_premise.Form t (taken + 1)
        (number + 1) lines
    | ends v ↦ Ok (record { value = v; taken = taken + 1; behind = lines })
    | refuses r ↦ Err (record { line = number; rule = r })
  ]

  abbrev later : Option ℕ
  later = first_unskipped (number + 1) lines

  by_tests : (long skipped parted halving : Bool) (version : Option ℕ)
      → (halving ≡ true → version ≡ None)
      → plan_on (if long then refuses premise.Form else if skipped then goes plan_stage.Unread
      else if parted then begins version else refuses premise.Form) ≡ Ok found
      → (plan_on (goes plan_stage.Unread) ≡ Ok found
      → FailsFirst later (halving_on (goes halving_stage.Unread)))
      → FailsFirst (if long || not skipped then Some number else later)
      (halving_on (if long then refuses line_premise.Form else if skipped
      then goes halving_stage.Unread else if parted then if halving then goes halving_stage.Begun
      else refuses line_premise.Form else refuses line_premise.Form))
  by_tests true skipped parted halving version apart is rest = refl
  by_tests false true parted halving version apart is rest = rest is
  by_tests false false false halving version apart is rest = refl
  by_tests false false true false version apart is rest = refl
  by_tests false false true true None apart is rest = absurd cc
  by_tests false false true true (Some version) apart is rest =
      let none : Some version ≡ None = apart refl in absurd cc

first_fails : (lines : List (List ℕ)) (taken number : ℕ) (found : Found Plan)
    → part_from (with_skips plan_step premise.Form) premise.Form plan_stage.Unread taken number
    lines ≡ Ok found
    → FailsFirst (first_unskipped number lines)
    (part_from (with_skips halving_step line_premise.Form) line_premise.Form halving_stage.Unread
    taken number lines)
first_fails [] taken number found is = absurd cc
first_fails (line ∷ lines) taken number found is =
    by_tests lines taken number found (nat_lt 4096 (length line)) (is_skipped line)
    (is_well_parted line) (bytes_eq line (codes "halving 1")) (version_of line) (apart line) is
    (first_fails lines (taken + 1) (number + 1) found)

-- what fails as a halving plan at its first line is read as a plan
read_as_plan : (text : List ℕ) (first : Option ℕ)
    (r : Result (Found HalvingNumbers) (At LinePremise)) → FailsFirst first r
    → counter_by first text (alone r) ≡ plan_counter text
read_as_plan text first (Ok found) fails = absurd fails
read_as_plan text first (Err at) fails =
    rw (fails, eq-eqb at.line at.line refl) refl

found_of : (r : Result (Found Plan) (At Premise)) (plan : Plan) → plan_alone r ≡ Ok plan
    → (found : Found Plan) × (r ≡ Ok found)
found_of (Ok found) plan is = (found, refl)
found_of (Err at) plan is = absurd cc

of_plan : (text : List ℕ) (plan : Plan) → whole_plan_of text ≡ Ok plan
    → counter_answer text ≡ Ok (Boosting plan)
of_plan text plan is =
    let found = found_of (plan_of text) plan is in
    read_as_plan text (first_unskipped 1 (lines_of text)) (halving_of text)
    (first_fails (lines_of text) 0 1 found.0 found.1)
    ∙ ap (λ (r : Result Plan (At Premise)). let counter : Result AnyMachine CallError =
    and_then (plan_or_refused r) (λ plan. Ok (Boosting plan)) in counter) is

pub texts_have_counters : TextsHaveCounters
texts_have_counters = record { boosting = of_plan; halving = of_halving; sound = sound_of }
