-- What the word `fire` writes: which nodes fire at the end of each slot that counts and begins in a
-- configuration that is shown. It is what is written on any counter, at that of the plan.
use Rattle.std.specs.Prelude.{ℕ, List}
use Rattle.construction.specs.Plans.{Plan}
use Rattle.plan_laws.specs.PlanMeaning.{plan_meaning}
use Rattle.adversary_script.specs.Scripts.{Script}
use Rattle.layer_laws.specs.Scenes.{Scene}
use Rattle.firing.specs.declared.requests.Request.{Request}
use Rattle.firing.specs.declared.fires.Fire.{Fire}
use Rattle.round_runner.specs.Locks.{is_locked}
use Rattle.layer_runner.specs.FireTexts as any
pub use Rattle.layer_runner.specs.FireTexts.{fired_word, fire_word, fire_front, fire_wording}

module _ (plan : Plan) (script : Script) (requests : List Request) where
  -- scene c of what is played, if none fires at first
  abbrev pub fire_scene : (c : ℕ) → Scene Fire
  fire_scene c = any.fire_scene (plan_meaning plan) script requests c

  -- the line of a slot that begins in configuration t: who fires when it ends
  abbrev pub fire_line : (t : ℕ) → List ℕ
  fire_line t = any.fire_line (plan_meaning plan) script requests t

  -- all that is written
  abbrev pub fire_text : List ℕ
  fire_text = any.fire_text (plan_meaning plan) (is_locked plan) script requests
