-- What an input is read as, or the refusal of its first line that fails: a plan and a script, a
-- plan alone, the table of a plan, or wants.
use Rattle.std.specs.Prelude.{ℕ, ◌+◌, List, Result, Ok, Err}
use Rattle.texts.specs.Parts.{At, Found}
use Rattle.sync_types.specs.declared.answers.Premise.{Premise}
use Rattle.sync_types.specs.declared.answers.Rule.{Rule}
use Rattle.sync_types.specs.declared.answers.Part.{Part}
use Rattle.sync_types.specs.declared.answers.Part.TheVariants as part
use Rattle.sync_types.specs.declared.answers.Cause.{Cause}
use Rattle.construction.specs.Plans.{Plan}
use Rattle.plan_reader.specs.PlanPart.{plan_of, whole_plan_of}
use Rattle.plan_certificate.specs.TableLines.{table_of}
use Rattle.plan_finder.specs.declared.wants.Want.{Want}
use Rattle.plan_finder.specs.FindPart.{want_of}
use Rattle.state_codec.specs.Shapes.{shape_of}
use Rattle.adversary_script.specs.Scripts.{Script}
use Rattle.adversary_script.specs.ScriptPart.{script_of}
use Rattle.outcomes.specs.declared.refusals.Refusal.{Refusal}
use Rattle.outcomes.specs.declared.refusals.Refusal.TheVariants as refusal

-- ---- refusals, by what refuses

abbrev pub in_plan : At Premise → Refusal
in_plan at = refusal.Plan at.line at.rule

abbrev pub in_part : Part → At Rule → Refusal
in_part name at = refusal.Part name at.line at.rule

abbrev pub in_table : At Cause → Refusal
in_table at = refusal.Table at.line at.rule

-- what was read, or its refusal
abbrev pub or_refusal : {V R : Type 0} → (At R → Refusal) → Result V (At R) → Result V Refusal
or_refusal refuse (Err at) = Err (refuse at)
or_refusal refuse (Ok value) = Ok value

-- ---- a plan, and a script for it

pub record Scripted : Type 0 where
  pub plan : Plan
  pub script : Script

abbrev pub with_script : Plan → Result Script (At Rule) → Result Scripted Refusal
with_script plan (Err at) = Err (in_part part.Script at)
with_script plan (Ok script) = Ok (record { plan = plan; script = script })

abbrev pub behind_plan : Result (Found Plan) (At Premise) → Result Scripted Refusal
behind_plan (Err at) = Err (in_plan at)
behind_plan (Ok found) = with_script found.value
    (script_of found.value (shape_of found.value) (1 + found.taken) found.behind)

abbrev pub scripted_of : List ℕ → Result Scripted Refusal
scripted_of input = behind_plan (plan_of input)

-- ---- a part after which only skipped lines stand

abbrev pub plan_alone : List ℕ → Result Plan Refusal
plan_alone input = or_refusal in_plan (whole_plan_of input)

abbrev pub tabled_of : List ℕ → Result Plan Refusal
tabled_of input = or_refusal in_table (table_of input)

abbrev pub wants_of : List ℕ → Result Want Refusal
wants_of input = or_refusal (in_part part.Find) (want_of input)
