-- Inputs with a script, as texts of their parts, are read as what these say.
use Rattle.std.specs.Prelude.{◌≡◌, ℕ, ◌≤◌, List, ◌++◌, length, All, Ok, IfOk}
use Rattle.construction.specs.Plans.{Plan}
use Rattle.plan_numbers.specs.Premises.{IsAccepted}
use Rattle.plan_reader.specs.PlanTexts.{plan_text}
use Rattle.state_codec.specs.Shapes.{shape_of}
use Rattle.adversary_script.specs.Scripts.{Script}
use Rattle.adversary_script.specs.ScriptTexts.{script_text}
use Rattle.adversary_script.specs.Writable.{IsWritable}
use Rattle.slot_table.specs.declared.lines.SlotLine.{SlotLine}
use Rattle.slot_table.specs.SlotPart as slot_part
use Rattle.slot_table.specs.SlotTexts.{slots_text}
use Rattle.consensus_layer.specs.AgreeContent.{AgreeContent}
use Rattle.consensus_layer.specs.AgreePart as agree_part
use Rattle.consensus_layer.specs.AgreeTexts.{agree_text}
use Rattle.firing.specs.declared.requests.Request.{Request}
use Rattle.firing.specs.FirePart as fire_part
use Rattle.firing.specs.RequestTexts.{requests_text, HasRounds}
use Rattle.replicated_log.specs.LogContent.{LogContent}
use Rattle.replicated_log.specs.LogPart as log_part
use Rattle.replicated_log.specs.LogTexts.{log_text}
use Rattle.outcomes.specs.Inputs.{scripted_of}
use Rattle.outcomes.specs.Layered.{slots_shape, agree_shape, fire_shape, log_shape, slotted_of}
use Rattle.outcomes.specs.Layered.{agreed_of, firing_of, logging_of}

-- a plan and a script
abbrev pub scripted_text : Plan → Script → List ℕ
scripted_text plan script = plan_text plan.version plan ++ script_text script

-- with the text of a part between them
abbrev pub layered_text : Plan → (part : List ℕ) → Script → List ℕ
layered_text plan part script = plan_text plan.version plan ++ (part ++ script_text script)

-- The texts of an accepted plan, and of a script for it that a text can say, one after the other,
-- are read as these; and so they are with the text of a slot table, of inputs, of requests or of a
-- log between them. There are no other scripts: what any input is read as, these texts are read as.
pub record ScriptInputsAreRead : Type 0 where
  pub run : (plan : Plan) → IsAccepted plan → (script : Script)
      → IsWritable plan (shape_of plan) script
      → scripted_of (scripted_text plan script) ≡ Ok (record { plan = plan; script = script })
  pub others : (input : List ℕ) → IfOk (scripted_of input)
      (λ read. scripted_of (scripted_text read.plan read.script) ≡ Ok read)
  pub slots : (plan : Plan) → IsAccepted plan → (table : List SlotLine)
      → slot_part.AreFor plan table
      → (script : Script) → IsWritable plan (slots_shape plan table) script
      → slotted_of (layered_text plan (slots_text table) script)
      ≡ Ok (record { plan = plan; said = table; script = script })
  pub consensus : (plan : Plan) → IsAccepted plan → (said : AgreeContent)
      → agree_part.IsAgreeForPlan plan said
      → (script : Script) → IsWritable plan (agree_shape plan said) script
      → agreed_of (layered_text plan (agree_text said) script)
      ≡ Ok (record { plan = plan; said = said; script = script })
  pub fire : (plan : Plan) → IsAccepted plan → (requests : List Request)
      → fire_part.AreFor plan requests → All HasRounds requests
      → (script : Script) → IsWritable plan (fire_shape plan requests) script
      → firing_of (layered_text plan (requests_text requests) script)
      ≡ Ok (record { plan = plan; said = requests; script = script })
  pub log : (plan : Plan) → IsAccepted plan → (said : LogContent) → log_part.IsLogForPlan plan said
      → All (λ own. length own ≤ 16) said.commands
      → (script : Script) → IsWritable plan (log_shape plan said) script
      → logging_of (layered_text plan (log_text said) script)
      ≡ Ok (record { plan = plan; said = said; script = script })
