-- What is written while a script is played is the text that is defined.
use Rattle.std.specs.Prelude.{◌≡◌, List, [], replicate}
use Rattle.construction.specs.Plans.{Plan, plan_nodes, plan_faults, plan_modulus}
use Rattle.plan_numbers.specs.Premises.{IsAccepted}
use Rattle.state_codec.specs.Shapes.{IsShape}
use Rattle.adversary_script.specs.Scripts.{Script, IsScript}
use Rattle.round_runner.specs.Runners as runner
use Rattle.layer_laws.specs.Slots.{slot_length}
use Rattle.firing.specs.declared.requests.Request.{Request}
use Rattle.firing.specs.FirePart.{AreFor}
use Rattle.firing.specs.Firings.{fire_layer, unfired}
use Rattle.replicated_log.specs.LogContent.{LogContent}
use Rattle.replicated_log.specs.LogPart.{IsLogForPlan}
use Rattle.replicated_log.specs.Logs.{log_layer}
use Rattle.run_lines.specs.PlayedTexts.{played_text}
use Rattle.run_lines.specs.FireTexts.{fire_text, fire_wording}
use Rattle.run_lines.specs.EntryTexts.{log_text, entry_wording}

-- the lines of firing
abbrev pub FiresAsDefined : Type 0
FiresAsDefined = (plan : Plan) → IsAccepted plan
    → (requests : List Request) → AreFor plan requests
    → (script : Script) → runner.IsPlayableOn plan (fire_layer plan requests) script
    → IsShape script.shape → IsScript script
    → played_text plan script (fire_layer plan requests) (replicate (plan_nodes plan) unfired)
    (fire_wording (slot_length (plan_faults plan))) ≡ fire_text plan script requests

-- the lines of a log
abbrev pub EntriesAsDefined : Type 0
EntriesAsDefined = (plan : Plan) → IsAccepted plan → (said : LogContent) → IsLogForPlan plan said
    → (script : Script) → runner.IsPlayableOn plan (log_layer plan said) script
    → IsShape script.shape → IsScript script
    → played_text plan script (log_layer plan said) (replicate (plan_nodes plan) [])
    (entry_wording (plan_nodes plan) (plan_faults plan) (plan_modulus plan))
    ≡ log_text plan script said
