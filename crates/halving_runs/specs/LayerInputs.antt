-- Inputs of a halving plan, a part that says what stands above its counter, and a script.
use Rattle.std.specs.Prelude.{ℕ, List, Option, Result}
use Rattle.texts.specs.Parts.{At, Found}
use Rattle.sync_types.specs.declared.answers.Part.{Part}
use Rattle.sync_types.specs.declared.answers.Part.TheVariants as part
use Rattle.sync_types.specs.declared.answers.Rule.{Rule}
use Rattle.state_codec.specs.Shapes.{Shape}
use Rattle.slot_table.specs.declared.lines.SlotLine.{SlotLine}
use Rattle.slot_table.specs.SlotPart as slots
use Rattle.layer_laws.specs.Numbers.{Numbers}
use Rattle.consensus_layer.specs.AgreeContent.{AgreeContent}
use Rattle.consensus_layer.specs.AgreePart as agree
use Rattle.firing.specs.declared.requests.Request.{Request}
use Rattle.firing.specs.FirePart as fire
use Rattle.replicated_log.specs.LogContent.{LogContent}
use Rattle.replicated_log.specs.LogPart as log
use Rattle.halving_plan.specs.Trees.{tree_nodes, tree_faults}
use Rattle.halving_plan.specs.Steps.{tree_depth}
use Rattle.halving_plan.specs.Plans.{HalvingNumbers, tree_of}
use Rattle.halving_texts.specs.HalvingShapes.{shape_of}
use Rattle.halving_runs.specs.declared.errors.RunRefusal.{RunRefusal}
use Rattle.halving_runs.specs.RunInputs.{Layered, layered_of}
use Rattle.layer_parts.specs.declared.registers.Registers.{Registers}
use Rattle.halving_runs.specs.LayerShapes.{shape_with, shape_for}

-- the numbers of a plan's counter
abbrev pub numbers_of : HalvingNumbers → Numbers
numbers_of plan = record {
  nodes = tree_nodes (tree_of plan);
  faults = tree_faults (tree_of plan);
  modulus = plan.modulus;
  depth = tree_depth (tree_of plan);
}

-- ---- a part for the numbers of a plan's counter, which has such registers

abbrev pub layered_by : {Content : Type 0} → Part
    → (part_over : Numbers → (number : ℕ) → List (List ℕ) → Result (Found Content) (At Rule))
    → (registers : Content → Option Registers) → List ℕ → Result (Layered Content) RunRefusal
layered_by name part_over registers input =
    layered_of name (λ plan. part_over (numbers_of plan))
    (λ plan said. shape_for plan (registers said)) input

-- ---- a slot table of the plan's nodes, and of the outputs that it counts by: it has no registers

abbrev pub slots_part : HalvingNumbers → (number : ℕ) → List (List ℕ)
    → Result (Found (List SlotLine)) (At Rule)
slots_part plan number lines = slots.part_for plan.nodes plan.modulus number lines

abbrev pub slots_shape : HalvingNumbers → List SlotLine → Shape
slots_shape plan table = shape_of plan

abbrev pub slotted_of : List ℕ → Result (Layered (List SlotLine)) RunRefusal
slotted_of input = layered_of part.Slots slots_part slots_shape input

-- ---- consensus: one register of the values that are said, after those of the plan

abbrev pub agree_part : HalvingNumbers → (number : ℕ) → List (List ℕ)
    → Result (Found AgreeContent) (At Rule)
agree_part plan number lines = agree.part_over (numbers_of plan) number lines

abbrev pub agree_shape : HalvingNumbers → AgreeContent → Shape
agree_shape plan said = shape_with plan said.values 1

abbrev pub agreed_of : List ℕ → Result (Layered AgreeContent) RunRefusal
agreed_of input = layered_of part.Agree agree_part agree_shape input

-- ---- requests to fire: one register of two values

abbrev pub fire_part : HalvingNumbers → (number : ℕ) → List (List ℕ)
    → Result (Found (List Request)) (At Rule)
fire_part plan number lines = fire.part_over (numbers_of plan) number lines

abbrev pub fire_shape : HalvingNumbers → List Request → Shape
fire_shape plan requests = shape_with plan 2 1

abbrev pub firing_of : List ℕ → Result (Layered (List Request)) RunRefusal
firing_of input = layered_of part.Fire fire_part fire_shape input

-- ---- a log: two registers of its values

abbrev pub log_part : HalvingNumbers → (number : ℕ) → List (List ℕ)
    → Result (Found LogContent) (At Rule)
log_part plan number lines = log.part_over (numbers_of plan) number lines

abbrev pub log_shape : HalvingNumbers → LogContent → Shape
log_shape plan said = shape_with plan said.values 2

abbrev pub logging_of : List ℕ → Result (Layered LogContent) RunRefusal
logging_of input = layered_of part.Log log_part log_shape input
