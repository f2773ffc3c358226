-- A runner that plays its script, and is explained.
use Rattle.std.proofs.Common.{◌≡◌, ◌≢◌, ℕ, List, [], Option, codes, refl, sym, ap}
use Rattle.std.proofs.Common.{ap₂, ◌∙◌}
use Rattle.std.proofs.Math.Path.{fun_ext}
use Rattle.std.proofs.lemmas.List.{nil_from_length}
use Rattle.sync_types.specs.States.{State}
use Rattle.construction.specs.Plans.{Level, Plan, plan_depth}
use Rattle.counter_core.specs.declared.overlays.NoOverlay.{NoOverlay}
use Rattle.counter_core.specs.NoLayers.{no_layer}
use Rattle.adversary_script.specs.Scripts.{Script}
use Rattle.round_runner.specs.Played.{played_at}
use Rattle.round_runner.specs.Runners.{Running, IsPlaying, configuration_of}
use Rattle.round_runner.specs.Skipping.{IsSkipped}
use Rattle.round_runner.proofs.Playing.{scene_played}
use Rattle.run_explanations.specs.declared.explanations.Explanation.{Explanation}
use Rattle.run_explanations.specs.Explanations.{explanation_of}
use Rattle.run_explanations.specs.Playing as explained
use Rattle.run_lines.specs.RunTexts.{lock_lines}
use Rattle.outcomes.specs.ExplainText.{explanation_lines, lines_over, why_lines}
use Rattle.outcomes.proofs.ExplainTexts.{levelled_is}
use Rattle.answers.specs.ScriptedRuns.{HasPlayedAlone}

abbrev Plays : Running NoOverlay → Type 0
Plays r = IsPlaying (λ o. no_layer) (λ o. []) [] r

-- the lock lines are those of the plan and the script
pub locks_are : (plan : Plan) (old new : Running NoOverlay) → old.plan ≡ plan
    → HasPlayedAlone old new.at new
    → lock_lines new.plan new.script (configuration_of (λ o. no_layer) [] new)
    ≡ lock_lines plan old.script (played_at plan old.script)
locks_are plan old new is played =
    ap₂ (λ (p : Plan) (s : Script). lock_lines p s
    (configuration_of (λ o. no_layer) [] (record new { plan = p; script = s }))) played.plan
    played.script
    ∙ ap (λ (config_at : ℕ → List State). lock_lines old.plan old.script config_at)
    (fun_ext (λ c. scene_played old.plan old.script [] c))
    ∙ ap (λ (p : Plan). lock_lines p old.script (played_at p old.script)) is

-- ---- a runner that plays

-- what was skipped was played
pub skipped_plays : (begun r : Running NoOverlay) → IsSkipped begun r.at r → Plays r
    → HasPlayedAlone begun r.at r
skipped_plays begun r skipped plays = record {
  plan = skipped.plan;
  script = skipped.script;
  layer = refl;
  at = skipped.at;
  plays = plays;
}

-- a runner that is explained has played
pub explained_plays : (begun r : Running NoOverlay) → explained.HasPlayed begun r.at r
    → HasPlayedAlone begun r.at r
explained_plays begun r played = record {
  plan = played.plan;
  script = played.script;
  layer = refl;
  at = played.at;
  plays = played.plays;
}

-- ---- what is written of why it locks

-- of a plan without levels
pub base_is : (plan : Plan) (script : Script) → plan_depth plan ≡ 0
    → codes "explain base\n" ≡ why_lines plan script
base_is plan script none =
    sym (ap (λ (levels : List Level). lines_over levels plan script)
    (nil_from_length plan.levels none))

-- and of one with levels
pub why_is : (plan : Plan) (script : Script) (found : Option Explanation) → (plan_depth plan ≢ 0)
    → found ≡ explanation_of plan script → explanation_lines found ≡ why_lines plan script
why_is plan script found some is =
    ap explanation_lines is ∙ sym (levelled_is plan.levels plan script some)
