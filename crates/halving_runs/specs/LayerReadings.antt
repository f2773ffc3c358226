-- What was read of an input of a plan, a part for the plan's counter, and a script.
use Rattle.std.specs.Prelude.{◌≡◌, ℕ, List, Option, Result, Ok}
use Rattle.texts.specs.Parts.{At, Found}
use Rattle.sync_types.specs.declared.answers.Part.{Part}
use Rattle.sync_types.specs.declared.answers.Rule.{Rule}
use Rattle.state_codec.specs.Shapes.{Shape}
use Rattle.adversary_script.specs.Scripts.{Script}
use Rattle.layer_laws.specs.Numbers.{Numbers}
use Rattle.layer_parts.specs.declared.registers.Registers.{Registers}
use Rattle.consensus_layer.specs.AgreePart.{IsForNumbers}
use Rattle.consensus_layer.specs.AgreeContent.{AgreeContent}
use Rattle.firing.specs.declared.requests.Request.{Request}
use Rattle.firing.specs.FirePart as firing
use Rattle.replicated_log.specs.LogContent.{LogContent}
use Rattle.replicated_log.specs.LogPart as logging
use Rattle.halving_plan.specs.Plans.{HalvingNumbers, IsAccepted}
use Rattle.halving_runs.specs.LayerInputs.{numbers_of, layered_by}
use Rattle.halving_runs.specs.LayerShapes.{shape_for}
use Rattle.halving_runs.specs.Readings.{IsScriptForHalving}

module _ {Content Made : Type 0} (name : Part)
    (part_over : Numbers → (number : ℕ) → List (List ℕ) → Result (Found Content) (At Rule))
    (registers : Content → Option Registers) (Fits : Numbers → Content → Type 0)
    (IsMade : Numbers → Content → Made → Type 0) where
  -- what the part of an input says, the plan, the shape of states with the part's registers, and
  -- the script
  pub record IsLayered (input : List ℕ) (read : Made × (HalvingNumbers × Shape × Script)) : Type 0
    where
      pub said : Content
      pub is : layered_by name part_over registers input
          ≡ Ok (record { plan = read.1.0; said = said; script = read.1.2 })
      pub accepted : IsAccepted read.1.0
      pub fits : Fits (numbers_of read.1.0) said
      pub made_is : IsMade (numbers_of read.1.0) said read.0
      pub shape : read.1.1 ≡ shape_for read.1.0 (registers said)
      pub script : IsScriptForHalving read.1.0 read.1.1 read.1.2

-- ---- what is for the counter of a plan

abbrev pub FitsAgreed : HalvingNumbers → AgreeContent → Type 0
FitsAgreed plan said = IsForNumbers (numbers_of plan) said

abbrev pub FitsRequests : HalvingNumbers → List Request → Type 0
FitsRequests plan requests = firing.AreForNumbers (numbers_of plan) requests

abbrev pub FitsLog : HalvingNumbers → LogContent → Type 0
FitsLog plan said = logging.IsForNumbers (numbers_of plan) said
