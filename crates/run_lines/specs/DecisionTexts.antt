-- What the word `consensus` writes: the decisions of each slot that counts and begins in a
-- configuration that is shown. It is what is written on any counter, at that of the plan.
use Rattle.std.specs.Prelude.{ℕ, List}
use Rattle.construction.specs.Plans.{Plan, plan_faults}
use Rattle.plan_laws.specs.PlanMeaning.{plan_meaning}
use Rattle.adversary_script.specs.Scripts.{Script}
use Rattle.layer_laws.specs.Scenes.{Scene}
use Rattle.layer_laws.specs.Slots.{slot_length}
use Rattle.consensus_layer.specs.AgreeContent.{AgreeContent}
use Rattle.round_runner.specs.Locks.{is_locked}
use Rattle.layer_runner.specs.DecisionTexts as any
pub use Rattle.layer_runner.specs.DecisionTexts.{decision_word, slot_front, decision_wording}

module _ (plan : Plan) (script : Script) (said : AgreeContent) where
  abbrev pub slot_of : ℕ
  slot_of = slot_length (plan_faults plan)

  -- scene c of what is played, if each decision is 0 at first
  abbrev pub agree_scene : (c : ℕ) → Scene ℕ
  agree_scene c = any.agree_scene (plan_meaning plan) script said c

  -- the line of a slot that begins in configuration t: the decisions when it ends
  abbrev pub decision_line : (t : ℕ) → List ℕ
  decision_line t = any.decision_line (plan_meaning plan) script said t

  -- all that is written
  abbrev pub decision_text : List ℕ
  decision_text = any.decision_text (plan_meaning plan) (is_locked plan) script said
