-- What is written is read as the plan, and as the script after it.
use Rattle.std.specs.Prelude.{◌≡◌, ℕ, ◌+◌, List, ◌++◌, Result, Ok}
use Rattle.texts.specs.Parts.{At, Found}
use Rattle.sync_types.specs.declared.answers.Rule.{Rule}
use Rattle.construction.specs.Plans.{plan_nodes, plan_faults}
use Rattle.plan_reader.specs.PlanPart.{plan_of}
use Rattle.state_codec.specs.Shapes as boosting
use Rattle.adversary_script.specs.Scripts.{Script}
use Rattle.adversary_script.specs.ScriptPart.{script_for}
use Rattle.halving_texts.specs.HalvingShapes as halving
use Rattle.halving_texts.specs.HalvingPart.{halving_of}
use Rattle.attack.specs.Tried.{script_in}
use Rattle.attack.specs.declared.plans.AnyPlan.{AnyPlan}
use Rattle.attack.specs.declared.plans.AnyPlan.TheVariants as plan
use Rattle.attack.specs.PlanTexts.{IsAcceptedPlan, machine_in, shape_in, text_of, first_line_of}

-- The part at the beginning of a text is a plan, and the lines after it are the script, numbered on
-- from those of the plan.
pub record IsReadAs {P R : Type 0} (front : Result (Found P) (At R))
    (scripted : (number : ℕ) → List (List ℕ) → Result Script (At Rule)) (own : P) (script : Script)
    : Type 0 where
  pub found : Found P
  pub is : front ≡ Ok found
  pub same : found.value ≡ own
  pub behind : scripted (1 + found.taken) found.behind ≡ Ok script

-- by the grammars of the words `run` of both programs
abbrev pub ReadsAs : (text : List ℕ) → AnyPlan → Script → Type 0
ReadsAs text (plan.Boosting own) script =
    IsReadAs (plan_of text)
    (script_for (plan_nodes own) (plan_faults own) (boosting.shape_of own)) own script
ReadsAs text (plan.Halving own) script =
    IsReadAs (halving_of text) (script_for own.nodes own.faults (halving.shape_of own)) own script

-- The text of an accepted plan, with that of a script for its machine after it, is read as these.
abbrev pub WrittenIsRead : Type 0
WrittenIsRead = (any : AnyPlan) → IsAcceptedPlan any → (text : List ℕ) (script : Script)
    → script_in (machine_in any) (shape_in any) (first_line_of any) text ≡ Ok script
    → ReadsAs (text_of any ++ text) any script
