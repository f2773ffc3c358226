-- What a word writes of what is played with a layer on a plan's counter: the words of any counter,
-- at that of the plan.
use Rattle.std.specs.Prelude.{ℕ, List}
use Rattle.sync_types.specs.States.{State}
use Rattle.construction.specs.Plans.{Plan}
use Rattle.plan_laws.specs.PlanMeaning.{plan_meaning}
use Rattle.counter_core.specs.Overlays.{Layer}
use Rattle.adversary_script.specs.Scripts.{Script}
use Rattle.layer_laws.specs.Scenes.{Scene}
use Rattle.round_runner.specs.Locks.{is_locked}
use Rattle.layer_runner.specs.PlayedTexts as any
pub use Rattle.layer_runner.specs.PlayedTexts.{Wording, numbered}

-- the line of a configuration
abbrev pub line_of : {Kept : Type 0} → Wording Kept → Plan → Script → (c : ℕ) → Scene Kept → List ℕ
line_of wording plan script c scene = any.line_of wording (plan_meaning plan) script c scene

-- that line, if there is one
abbrev pub line_if_shown : {Kept : Type 0} → Wording Kept → Plan → Script → (c : ℕ) → Scene Kept
    → List ℕ
line_if_shown wording plan script c scene =
    any.line_if_shown wording (plan_meaning plan) script c scene

module _ {Kept : Type 0} (plan : Plan) (script : Script) (layer : Layer Kept)
    (began : List Kept) where
  -- scene c of what is played, if the nodes began with these things kept
  abbrev pub scene_in : (c : ℕ) → Scene Kept
  scene_in c = any.scene_in (plan_meaning plan) script layer began c

  abbrev pub configuration_in : (c : ℕ) → List State
  configuration_in c = any.configuration_in (plan_meaning plan) script layer began c

  -- the line of configuration c, if there is one
  abbrev pub line_in : Wording Kept → (c : ℕ) → List ℕ
  line_in wording c = any.line_in (plan_meaning plan) script layer began wording c

  -- the lines of configurations 0 to the last
  abbrev pub lines_text : Wording Kept → List ℕ
  lines_text wording = any.lines_text (plan_meaning plan) script layer began wording

  -- those of configuration c and of the ones after it before that end
  abbrev pub lines_between : Wording Kept → (c end : ℕ) → List ℕ
  lines_between wording c end =
      any.lines_between (plan_meaning plan) script layer began wording c end

  -- all that is written
  abbrev pub played_text : Wording Kept → List ℕ
  played_text wording =
      any.played_text (plan_meaning plan) (is_locked plan) script layer began wording
