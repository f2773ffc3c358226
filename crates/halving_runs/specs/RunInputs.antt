-- What an input is read as, or the refusal of its first line that fails: a halving plan, and a script
-- for it, perhaps with another part between them.
use Rattle.std.specs.Prelude.{ℕ, ◌+◌, List, Result, Ok, Err}
use Rattle.texts.specs.Parts.{At, Found}
use Rattle.sync_types.specs.declared.answers.Part.{Part}
use Rattle.sync_types.specs.declared.answers.Part.TheVariants as part
use Rattle.sync_types.specs.declared.answers.Rule.{Rule}
use Rattle.state_codec.specs.Shapes.{Shape}
use Rattle.adversary_script.specs.Scripts.{Script}
use Rattle.adversary_script.specs.ScriptPart.{script_for}
use Rattle.halving_plan.specs.Plans.{HalvingNumbers}
use Rattle.halving_texts.specs.declared.premises.LinePremise.{LinePremise}
use Rattle.halving_texts.specs.HalvingPart.{halving_of}
use Rattle.halving_texts.specs.HalvingShapes.{shape_of}
use Rattle.halving_runs.specs.declared.errors.RunRefusal.{RunRefusal}
use Rattle.halving_runs.specs.declared.errors.RunRefusal.TheVariants as refusal

-- ---- of a line that fails: the part in which it stands

abbrev pub in_plan : At LinePremise → RunRefusal
in_plan at = refusal.Plan at.line at.rule

abbrev pub in_part : Part → At Rule → RunRefusal
in_part name at = refusal.Part name at.line at.rule

abbrev pub in_script : At Rule → RunRefusal
in_script at = in_part part.Script at

-- what is made of the part that was read, or the refusal of a line of it
abbrev pub then_read : {R V W : Type 0} → (R → RunRefusal) → (V → Result W RunRefusal)
    → Result V R → Result W RunRefusal
then_read refuse make (Err at) = Err (refuse at)
then_read refuse make (Ok value) = make value

-- ---- a plan and a script

pub record Scripted : Type 0 where
  pub plan : HalvingNumbers
  pub script : Script

-- the script of these lines, of which the first has that number, for states of that shape
abbrev pub script_behind : HalvingNumbers → Shape → (number : ℕ) → List (List ℕ)
    → Result Script (At Rule)
script_behind plan shape number lines = script_for plan.nodes plan.faults shape number lines

abbrev pub with_script : HalvingNumbers → Script → Result Scripted RunRefusal
with_script plan script = Ok (record { plan = plan; script = script })

-- the script of the lines after the plan, whose numbers go on from those of the plan
abbrev pub scripted_behind : Found HalvingNumbers → Result Scripted RunRefusal
scripted_behind found =
    then_read in_script (with_script found.value)
    (script_behind found.value (shape_of found.value) (1 + found.taken) found.behind)

abbrev pub scripted_of : List ℕ → Result Scripted RunRefusal
scripted_of input = then_read in_plan scripted_behind (halving_of input)

-- ---- with another part between them

-- a plan, what the part says, and a script for both
pub record Layered (Content : Type 0) : Type 0 where
  pub plan : HalvingNumbers
  pub said : Content
  pub script : Script

abbrev pub with_said : {Content : Type 0} → HalvingNumbers → Content → Script
    → Result (Layered Content) RunRefusal
with_said plan said script = Ok (record { plan = plan; said = said; script = script })

-- a part of that name, and the shape of states with the registers of its layer
module _ {Content : Type 0} (name : Part)
    (part_of : HalvingNumbers → (number : ℕ) → List (List ℕ) → Result (Found Content) (At Rule))
    (shape_for : HalvingNumbers → Content → Shape) where
  -- the script after a part that begins with the line of that number
  abbrev pub behind_part : HalvingNumbers → (number : ℕ) → Found Content
      → Result (Layered Content) RunRefusal
  behind_part plan number found =
      then_read in_script (with_said plan found.value)
      (script_behind plan (shape_for plan found.value) (number + found.taken) found.behind)

  abbrev pub layered_behind : Found HalvingNumbers → Result (Layered Content) RunRefusal
  layered_behind found =
      let plan : HalvingNumbers = found.value in
      let number : ℕ = 1 + found.taken in
      then_read (in_part name) (behind_part plan number) (part_of plan number found.behind)

  abbrev pub layered_of : List ℕ → Result (Layered Content) RunRefusal
  layered_of input = then_read in_plan layered_behind (halving_of input)
