-- Inputs with a script, as texts of their parts, are read as what these say.
use Rattle.std.specs.Prelude.{◌≡◌, ℕ, ◌≤◌, List, ◌++◌, length, All, Result, Ok, IfOk}
use Rattle.state_codec.specs.Shapes.{Shape}
use Rattle.adversary_script.specs.Scripts.{Script}
use Rattle.adversary_script.specs.ScriptTexts.{script_text}
use Rattle.adversary_script.specs.Writable.{IsWritableFor}
use Rattle.slot_table.specs.declared.lines.SlotLine.{SlotLine}
use Rattle.slot_table.specs.SlotPart.{IsTable}
use Rattle.slot_table.specs.SlotTexts.{slots_text}
use Rattle.consensus_layer.specs.AgreeTexts.{agree_text}
use Rattle.firing.specs.declared.requests.Request.{Request}
use Rattle.firing.specs.RequestTexts.{requests_text, HasRounds}
use Rattle.replicated_log.specs.LogContent.{LogContent}
use Rattle.replicated_log.specs.LogTexts.{log_text}
use Rattle.halving_plan.specs.Plans.{HalvingNumbers, IsAccepted}
use Rattle.halving_texts.specs.HalvingTexts.{halving_text}
use Rattle.halving_texts.specs.HalvingShapes.{shape_of}
use Rattle.halving_runs.specs.declared.errors.RunRefusal.{RunRefusal}
use Rattle.halving_runs.specs.RunInputs.{scripted_of, Layered}
use Rattle.halving_runs.specs.LayerInputs.{slots_shape, slotted_of, agree_shape, agreed_of}
use Rattle.halving_runs.specs.LayerInputs.{fire_shape, firing_of, log_shape, logging_of}
use Rattle.halving_runs.specs.LayerReadings.{FitsAgreed, FitsRequests, FitsLog}

-- a plan and a script
abbrev pub scripted_text : HalvingNumbers → Script → List ℕ
scripted_text plan script = halving_text plan ++ script_text script

-- with the text of another part between them
abbrev pub layered_text : {Content : Type 0} → (text : Content → List ℕ) → HalvingNumbers → Content
    → Script
    → List ℕ
layered_text text plan said script = halving_text plan ++ (text said ++ script_text script)

-- The texts of an accepted plan, of what fits it, and of a script for both that a text can say, one
-- after the other, are read as these. There are no others: what any input is read as, these texts
-- are read as.
pub record LayeredAreRead {Content : Type 0}
    (layered_of : List ℕ → Result (Layered Content) RunRefusal)
    (text : Content → List ℕ) (shape_for : HalvingNumbers → Content → Shape)
    (Fits : HalvingNumbers → Content → Type 0) : Type 0 where
  pub read : (plan : HalvingNumbers) → IsAccepted plan → (said : Content) → Fits plan said
      → (script : Script)
      → IsWritableFor plan.nodes plan.faults (shape_for plan said) script
      → layered_of (layered_text text plan said script)
      ≡ Ok (record { plan = plan; said = said; script = script })
  pub others : (input : List ℕ) → IfOk (layered_of input)
      (λ read. layered_of (layered_text text read.plan read.said read.script) ≡ Ok read)

-- the table is one of the plan's nodes, and of the outputs that it counts by
abbrev pub FitsTable : HalvingNumbers → List SlotLine → Type 0
FitsTable plan table = IsTable plan.nodes plan.modulus table

-- the requests are for the plan's counter, each of rounds that a line can say
abbrev pub RequestsAreWritable : HalvingNumbers → List Request → Type 0
RequestsAreWritable plan requests = FitsRequests plan requests × All HasRounds requests

-- the log is for the plan's counter, with as few commands of each node as a line can say
abbrev pub LogIsWritable : HalvingNumbers → LogContent → Type 0
LogIsWritable plan said = FitsLog plan said × All (λ own. length own ≤ 16) said.commands

-- So it is of a plan and a script, and with a slot table, inputs to agree on, requests to fire or a
-- log between them.
pub record ScriptInputsAreRead : Type 0 where
  pub run : (plan : HalvingNumbers) → IsAccepted plan → (script : Script)
      → IsWritableFor plan.nodes plan.faults (shape_of plan) script
      → scripted_of (scripted_text plan script) ≡ Ok (record { plan = plan; script = script })
  pub others : (input : List ℕ) → IfOk (scripted_of input)
      (λ read. scripted_of (scripted_text read.plan read.script) ≡ Ok read)
  pub slots : LayeredAreRead slotted_of slots_text slots_shape FitsTable
  pub consensus : LayeredAreRead agreed_of agree_text agree_shape FitsAgreed
  pub fire : LayeredAreRead firing_of requests_text fire_shape RequestsAreWritable
  pub log : LayeredAreRead logging_of log_text log_shape LogIsWritable
