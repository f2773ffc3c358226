-- Inputs of a plan, a part that says a layer above its counter, and a script.
use Rattle.std.specs.Prelude.{ℕ, ◌+◌, List, Option, Some, None, Result, Ok, Err}
use Rattle.texts.specs.Parts.{At, Found}
use Rattle.sync_types.specs.declared.answers.Premise.{Premise}
use Rattle.sync_types.specs.declared.answers.Rule.{Rule}
use Rattle.sync_types.specs.declared.answers.Part.{Part}
use Rattle.sync_types.specs.declared.answers.Part.TheVariants as part
use Rattle.construction.specs.Plans.{Plan}
use Rattle.plan_reader.specs.PlanPart.{plan_of}
use Rattle.state_codec.specs.Shapes.{Shape, shape_of, shape_with}
use Rattle.adversary_script.specs.Scripts.{Script}
use Rattle.adversary_script.specs.ScriptPart.{script_of}
use Rattle.layer_laws.specs.Numbers.{Numbers, numbers_of}
use Rattle.layer_parts.specs.declared.registers.Registers.{Registers}
use Rattle.slot_table.specs.declared.lines.SlotLine.{SlotLine}
use Rattle.slot_table.specs.SlotPart as slots
use Rattle.consensus_layer.specs.AgreeContent.{AgreeContent}
use Rattle.consensus_layer.specs.AgreePart as agree
use Rattle.firing.specs.declared.requests.Request.{Request}
use Rattle.firing.specs.FirePart as fire
use Rattle.replicated_log.specs.LogContent.{LogContent}
use Rattle.replicated_log.specs.LogPart as log
use Rattle.outcomes.specs.declared.refusals.Refusal.{Refusal}
use Rattle.outcomes.specs.Inputs.{in_plan, in_part}

-- a plan, what is said of the layer, and a script for both
pub record Layered (Content : Type 0) : Type 0 where
  pub plan : Plan
  pub said : Content
  pub script : Script

-- a part of that name after the plan, and the shape of states with the registers of its layer
module _ {Content : Type 0} (name : Part)
    (part_of : Plan → (number : ℕ) → List (List ℕ) → Result (Found Content) (At Rule))
    (shape_for : Plan → Content → Shape) where
  abbrev pub layered_with : Plan → Content → Result Script (At Rule)
      → Result (Layered Content) Refusal
  layered_with plan said (Err at) = Err (in_part part.Script at)
  layered_with plan said (Ok script) =
      Ok (record { plan = plan; said = said; script = script })

  -- the script begins with the line of that number
  abbrev pub behind_part : Plan → (number : ℕ) → Result (Found Content) (At Rule)
      → Result (Layered Content) Refusal
  behind_part plan number (Err at) = Err (in_part name at)
  behind_part plan number (Ok found) =
      layered_with plan found.value
      (script_of plan (shape_for plan found.value) (number + found.taken) found.behind)

  abbrev pub behind_plan : Result (Found Plan) (At Premise) → Result (Layered Content) Refusal
  behind_plan (Err at) = Err (in_plan at)
  behind_plan (Ok found) =
      behind_part found.value (1 + found.taken)
      (part_of found.value (1 + found.taken) found.behind)

  abbrev pub layered_of : List ℕ → Result (Layered Content) Refusal
  layered_of input = behind_plan (plan_of input)

-- ---- a part for the counter of a plan

-- the shape of a plan's states, with these registers after the plan's
abbrev pub shape_for : Plan → Option Registers → Shape
shape_for plan None = shape_of plan
shape_for plan (Some more) = shape_with plan more.values more.count

-- an input with a part for a counter's numbers, which has such registers
abbrev pub layered_by : {Content : Type 0} → Part
    → (part_over : Numbers → (number : ℕ) → List (List ℕ) → Result (Found Content) (At Rule))
    → (registers : Content → Option Registers) → List ℕ → Result (Layered Content) Refusal
layered_by name part_over registers input =
    layered_of name (λ plan. part_over (numbers_of plan))
    (λ plan said. shape_for plan (registers said)) input

-- ---- the four layers

-- a slot table: the registers of the plan alone
abbrev pub slots_shape : Plan → List SlotLine → Shape
slots_shape plan table = shape_of plan

abbrev pub slotted_of : List ℕ → Result (Layered (List SlotLine)) Refusal
slotted_of input = layered_of part.Slots slots.part_of slots_shape input

-- consensus: one register of the values that are said, after those of the plan
abbrev pub agree_shape : Plan → AgreeContent → Shape
agree_shape plan said = shape_with plan said.values 1

abbrev pub agreed_of : List ℕ → Result (Layered AgreeContent) Refusal
agreed_of input = layered_of part.Agree agree.part_of agree_shape input

-- requests to fire: one register of two values
abbrev pub fire_shape : Plan → List Request → Shape
fire_shape plan requests = shape_with plan 2 1

abbrev pub firing_of : List ℕ → Result (Layered (List Request)) Refusal
firing_of input = layered_of part.Fire fire.part_of fire_shape input

-- a log: two registers of its values
abbrev pub log_shape : Plan → LogContent → Shape
log_shape plan said = shape_with plan said.values 2

abbrev pub logging_of : List ℕ → Result (Layered LogContent) Refusal
logging_of input = layered_of part.Log log.part_of log_shape input
