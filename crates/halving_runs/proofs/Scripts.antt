-- An input that is read: its plan is accepted, a part after it fits it, and the script is one for
-- the plan's machine.
use Rattle.std.proofs.Common.{◌≡◌, ℕ, ◌+◌, List, Result, Ok, refl, sym, ◌∙◌, subst, arith}
use Rattle.std.specs.Prelude.{IfOk}
use Rattle.texts.specs.Parts.{At, Found}
use Rattle.sync_types.specs.declared.answers.Part.{Part}
use Rattle.sync_types.specs.declared.answers.Part.TheVariants as part
use Rattle.sync_types.specs.declared.answers.Rule.{Rule}
use Rattle.state_codec.specs.Shapes.{Shape, IsShape, shape_nodes}
use Rattle.adversary_script.specs.Scripts.{Script, IsScript}
use Rattle.adversary_script.specs.ScriptPart.{IsScriptFor}
use Rattle.adversary_script.proofs.ReadScripts.{script_fits, script_is_script}
use Rattle.machine_runner.specs.Laws.{IsShapeOf, IsReadFor}
use Rattle.machine_runner.proofs.ReadFor.{readers_fit}
use Rattle.slot_table.specs.declared.lines.SlotLine.{SlotLine}
use Rattle.slot_table.proofs.FitLines.{tables_fit}
use Rattle.halving_plan.specs.Trees.{tree_faults}
use Rattle.halving_plan.proofs.Numbers.{faults_of_tree}
use Rattle.halving_plan.specs.Plans.{HalvingNumbers, IsAccepted, tree_of}
use Rattle.halving_plan.specs.Laws.{machine_in}
use Rattle.halving_plan.proofs.Sound.{nodes_are}
use Rattle.halving_texts.specs.HalvingPart.{halving_of}
use Rattle.halving_texts.proofs.Rewritten.{read_is_accepted}
use Rattle.halving_texts.specs.HalvingShapes.{shape_of}
use Rattle.halving_texts.proofs.Shaped as shaped
use Rattle.halving_runs.specs.RunInputs.{in_plan, in_part, in_script, script_behind, Scripted}
use Rattle.halving_runs.specs.RunInputs.{with_script, scripted_behind, scripted_of, Layered}
use Rattle.halving_runs.specs.RunInputs.{with_said, behind_part, layered_behind, layered_of}
use Rattle.halving_runs.specs.LayerInputs.{slots_part, slots_shape, slotted_of}
use Rattle.halving_runs.specs.Readings.{IsScriptForHalving}
use Rattle.halving_runs.specs.ScriptInputs.{FitsTable}
use Rattle.halving_runs.proofs.ReadParts.{then_holds, both_hold, holds_at}

-- the plan is accepted, and the script is one for its machine
pub record IsRead (plan : HalvingNumbers) (script : Script) : Type 0 where
  pub accepted : IsAccepted plan
  pub for : IsReadFor (machine_in plan) script

-- the plan is accepted, what is said fits it, and the script is one for both
pub record IsLayered {Content : Type 0} (shape_for : HalvingNumbers → Content → Shape)
    (Fits : HalvingNumbers → Content → Type 0) (read : Layered Content) : Type 0 where
  pub accepted : IsAccepted read.plan
  pub fits : Fits read.plan read.said
  pub script : IsScriptForHalving read.plan (shape_for read.plan read.said) read.script

-- a script that is read after a plan is one for the shape by which it is read
pub script_is_for : (plan : HalvingNumbers) (shape : Shape) → IsShape shape → (number : ℕ)
    (lines : List (List ℕ)) → IfOk (script_behind plan shape number lines)
    (IsScriptForHalving plan shape)
script_is_for plan shape sound number lines =
    both_hold (IsScriptFor plan.nodes plan.faults shape) IsScript (IsScriptForHalving plan shape)
    (script_behind plan shape number lines)
    (script_fits plan.nodes plan.faults shape sound number lines)
    (script_is_script plan.nodes plan.faults shape sound number lines)
    (λ script right whole. record { right = right; whole = whole })

-- ---- a script for the plan's own shape is one for its machine

module _ (plan : HalvingNumbers) (accepted : IsAccepted plan) where
  is_shape_of : IsShapeOf (machine_in plan) (shape_of plan)
  is_shape_of = record {
    sound = shaped.is_shape plan accepted;
    nodes = shaped.nodes_are plan accepted ∙ sym (nodes_are plan accepted);
    depth = refl;
    fields = λ v lt.
        shaped.fields_are plan accepted v (omega (arith, lt, nodes_are plan accepted));
  }

  pub faults_are : tree_faults (tree_of plan) ≡ plan.faults
  faults_are = faults_of_tree plan.faults _

  fits_machine : (script : Script) → IsScriptFor plan.nodes plan.faults (shape_of plan) script
      → IsScriptFor (shape_nodes (shape_of plan)) (machine_in plan).faults (shape_of plan) script
  fits_machine script for =
      subst (λ f. IsScriptFor (shape_nodes (shape_of plan)) f (shape_of plan) script)
      (sym faults_are)
      (subst (λ n. IsScriptFor n plan.faults (shape_of plan) script)
      (sym (shaped.nodes_are plan accepted)) for)

  pub read_for : (script : Script) → IsScriptForHalving plan (shape_of plan) script
      → IsReadFor (machine_in plan) script
  read_for script for =
      readers_fit (machine_in plan) (shape_of plan) script is_shape_of
      (fits_machine script for.right) for.whole

-- ---- of an input

abbrev AcceptedIn : Found HalvingNumbers → Type 0
AcceptedIn found = IsAccepted found.value

abbrev ScriptedRead : Scripted → Type 0
ScriptedRead s = IsRead s.plan s.script

scripted_read : (input : List ℕ) → IfOk (scripted_of input) ScriptedRead
scripted_read input =
    then_holds in_plan scripted_behind AcceptedIn ScriptedRead (halving_of input)
    (read_is_accepted input)
    (λ found accepted.
    let plan : HalvingNumbers = found.value in
    then_holds in_script (with_script plan) (IsScriptForHalving plan (shape_of plan)) ScriptedRead
    (script_behind plan (shape_of plan) (1 + found.taken) found.behind)
    (script_is_for plan (shape_of plan) (shaped.is_shape plan accepted) (1 + found.taken)
    found.behind)
    (λ script for. record { accepted = accepted; for = read_for plan accepted script for }))

pub is_read : (input : List ℕ) (s : Scripted) → scripted_of input ≡ Ok s → IsRead s.plan s.script
is_read input s is = holds_at ScriptedRead (scripted_of input) s is (scripted_read input)

-- a part of that name, if what is said fits its plan, and the shape is one
module _ {Content : Type 0} (name : Part)
    (part_of : HalvingNumbers → (number : ℕ) → List (List ℕ) → Result (Found Content) (At Rule))
    (shape_for : HalvingNumbers → Content → Shape) (Fits : HalvingNumbers → Content → Type 0)
    (fit : (plan : HalvingNumbers) → IsAccepted plan → (number : ℕ) (lines : List (List ℕ))
    → IfOk (part_of plan number lines) (λ found. Fits plan found.value))
    (sound : (plan : HalvingNumbers) → IsAccepted plan → (said : Content) → Fits plan said
    → IsShape (shape_for plan said)) where
  abbrev FitsIn : HalvingNumbers → Found Content → Type 0
  FitsIn plan found = Fits plan found.value

  part_read : (plan : HalvingNumbers) → IsAccepted plan → (number : ℕ) (found : Found Content)
      → FitsIn plan found
      → IfOk (behind_part name part_of shape_for plan number found) (IsLayered shape_for Fits)
  part_read plan accepted number found fits =
      let shape = shape_for plan found.value in
      then_holds in_script (with_said plan found.value) (IsScriptForHalving plan shape)
      (IsLayered shape_for Fits)
      (script_behind plan shape (number + found.taken) found.behind)
      (script_is_for plan shape (sound plan accepted found.value fits) (number + found.taken)
      found.behind)
      (λ script for. record { accepted = accepted; fits = fits; script = for })

  input_read : (input : List ℕ)
      → IfOk (layered_of name part_of shape_for input) (IsLayered shape_for Fits)
  input_read input =
      then_holds in_plan (layered_behind name part_of shape_for) AcceptedIn
      (IsLayered shape_for Fits) (halving_of input) (read_is_accepted input)
      (λ found accepted.
      let plan : HalvingNumbers = found.value in
      let number : ℕ = 1 + found.taken in
      then_holds (in_part name) (behind_part name part_of shape_for plan number) (FitsIn plan)
      (IsLayered shape_for Fits) (part_of plan number found.behind)
      (fit plan accepted number found.behind) (part_read plan accepted number))

  pub layered_read : (input : List ℕ) (l : Layered Content)
      → layered_of name part_of shape_for input ≡ Ok l → IsLayered shape_for Fits l
  layered_read input l is =
      holds_at (IsLayered shape_for Fits) (layered_of name part_of shape_for input) l is
      (input_read input)

-- ---- with a slot table

pub has_table : (input : List ℕ) (l : Layered (List SlotLine)) → slotted_of input ≡ Ok l
    → IsLayered slots_shape FitsTable l
has_table =
    layered_read part.Slots slots_part slots_shape FitsTable
    (λ plan accepted. tables_fit plan.nodes plan.modulus)
    (λ plan accepted table fits. shaped.is_shape plan accepted)
