-- What the words in lines of slots are, on a plan's counter.
use Rattle.std.specs.Prelude.{◌≡◌, ℕ, List, true}
use Rattle.construction.specs.Plans.{Plan, plan_faults}
use Rattle.plan_laws.specs.PlanMeaning.{plan_meaning}
use Rattle.adversary_script.specs.Scripts.{Script}
use Rattle.layer_laws.specs.Slots.{slot_length}
use Rattle.layer_runner.specs.LinePromises as any
use Rattle.promises.specs.LayeredEras.{IsReadFor}
use Rattle.consensus_layer.specs.AgreeContent.{AgreeContent}
use Rattle.consensus_layer.specs.AgreePart as agree
use Rattle.consensus_layer.specs.Agreements.{agree_layer}
use Rattle.firing.specs.declared.requests.Request.{Request}
use Rattle.firing.specs.FirePart.{AreFor}
use Rattle.firing.specs.Firings.{fire_layer}
use Rattle.replicated_log.specs.EntryLength.{entry_length}
use Rattle.replicated_log.specs.LogContent.{LogContent}
use Rattle.replicated_log.specs.LogPart as log
use Rattle.replicated_log.specs.Logs.{log_layer}
use Rattle.run_lines.specs.SlotTexts.{begins_at}
use Rattle.run_lines.specs.DecisionTexts.{slot_of, agree_scene}
use Rattle.run_lines.specs.FireTexts.{fire_scene}
use Rattle.run_lines.specs.EntryTexts.{log_scene}

-- ---- consensus

-- the line of a slot that begins in configuration t has one decision
abbrev pub LineDecides : Plan → Script → AgreeContent → (t : ℕ) → Type 0
LineDecides plan = any.LineDecides (plan_meaning plan)

abbrev pub LinesDecide : Type 0
LinesDecide = (plan : Plan) (script : Script) (said : AgreeContent) → agree.IsAgreeForPlan plan said
    → IsReadFor plan (agree_layer plan said.values said.inputs) script
    → (t : ℕ)
    → begins_at plan script (slot_of plan script said) t (agree_scene plan script said t).states
    ≡ true
    → LineDecides plan script said t

-- ---- firing

-- the line of a slot that begins in configuration t: all fire, or none
abbrev pub LineFires : Plan → Script → List Request → (t : ℕ) → Type 0
LineFires plan = any.LineFires (plan_meaning plan)

abbrev pub LinesFireTogether : Type 0
LinesFireTogether = (plan : Plan) (script : Script) (requests : List Request)
    → AreFor plan requests → IsReadFor plan (fire_layer plan requests) script
    → (t : ℕ)
    → begins_at plan script (slot_length (plan_faults plan)) t
    (fire_scene plan script requests t).states ≡ true
    → LineFires plan script requests t

-- ---- the log

-- the line of a slot that begins in configuration t has the value of its entry
abbrev pub LinePuts : Plan → Script → LogContent → (t : ℕ) → Type 0
LinePuts plan = any.LinePuts (plan_meaning plan)

abbrev pub LinesPutOne : Type 0
LinesPutOne = (plan : Plan) (script : Script) (said : LogContent) → log.IsLogForPlan plan said
    → IsReadFor plan (log_layer plan said) script
    → (t : ℕ)
    → begins_at plan script (entry_length (plan_faults plan)) t
    (log_scene plan script said t).states ≡ true
    → LinePuts plan script said t
