-- A runner that plays a script goes on to play it, and without a layer its configurations are the
-- played ones.
use Rattle.std.proofs.Common.{◌≡◌, ℕ, zero, suc, ◌+◌, List, [], map, Option, unwrap_or, refl, sym}
use Rattle.std.proofs.Common.{ap}
use Rattle.std.proofs.Common.{ap₂, ◌∙◌, subst}
use Rattle.std.proofs.Math.Path.{fun_ext}
use Rattle.std.specs.List.{range_with_len}
use Rattle.std.proofs.lemmas.List.{append-nil}
use Rattle.sync_types.specs.declared.states.Reg.{Reg}
use Rattle.sync_types.specs.States.{State}
use Rattle.construction.specs.Plans.{Plan}
use Rattle.construction.specs.Steps.{step_of}
use Rattle.plan_laws.specs.PlanMeaning.{plan_meaning}
use Rattle.counter_core.specs.Overlays.{Layer}
use Rattle.counter_core.specs.NoLayers.{no_layer}
use Rattle.adversary_script.specs.Scripts.{Script, IsScript}
use Rattle.adversary_script.specs.Lookup.{hit_at}
use Rattle.machine_runner.specs.FirstLocked.{next_locks}
use Rattle.machine_runner.proofs.KnownLocks.{first_known}
use Rattle.round_runner.specs.Locks.{is_locked}
use Rattle.round_runner.specs.Laws.{BareRunnersArePlayed}
use Rattle.round_runner.specs.Played.{heard_at, played_at}
use Rattle.layer_laws.specs.Scenes.{Scene}
use Rattle.layer_laws.specs.Positions.{Position, IsPlayed, advanced}
use Rattle.layer_laws.proofs.Playing.{is_played_on}
use Rattle.layer_laws.specs.PlayedScenes.{begun_kept, next_scene, scene_at, new_state}
use Rattle.round_runner.specs.Runners.{Running, Advances, IsPlaying, begun}
use Rattle.round_runner.specs.Runners.{scene_of, configuration_of, position_of}

-- where a play of a plan stands, part by part
abbrev stands : {Kept : Type 0} → Plan → Script → Layer Kept → (at : ℕ) → Scene Kept
    → List (Option ℕ) → Position Kept
stands plan script layer at scene locks = record {
  counter = plan_meaning plan;
  locked = is_locked plan;
  script = script;
  layer = layer;
  at = at;
  scene = scene;
  locks = locks;
}

module _ {O Kept : Type 0} (layer : O → Layer Kept) (kept : O → List Kept) where
  -- a runner that has begun plays
  pub begins : (plan : Plan) (script : Script) (overlay : O) → IsScript script
      → IsPlaying layer kept (kept overlay) (begun plan script overlay)
  begins plan script overlay whole = record {
    scene = refl;
    locks = first_known (is_locked plan) script
        (configuration_of layer (kept overlay) (begun plan script overlay)) whole;
  }

  -- what a round does to it is what a round of a play does
  pub advances_as : (old new : Running O) → Advances layer kept old new
      → position_of layer kept new ≡ advanced (position_of layer kept old)
  advances_as old new step =
      let next : Scene Kept = next_scene (plan_meaning old.plan) old.script (layer old.overlay)
      old.at (scene_of kept old) in
      let locks : new.locks
      ≡ next_locks (is_locked old.plan) old.script old.locks (old.at + 1) next.states =
      step.locks ∙ ap₂ (λ (t : ℕ) (scene : Scene Kept).
      next_locks (is_locked old.plan) old.script old.locks t scene.states) step.at step.scene in
      ap (λ (plan : Plan). stands plan new.script (layer new.overlay) new.at (scene_of kept new)
      new.locks) step.plan
      ∙ (ap₂ (λ (script : Script) (l : Layer Kept). stands old.plan script l new.at
      (scene_of kept new) new.locks) step.script step.layer
      ∙ (ap₂ (λ (t : ℕ) (scene : Scene Kept). stands old.plan old.script (layer old.overlay) t scene
      new.locks) step.at step.scene
      ∙ ap (stands old.plan old.script (layer old.overlay) (old.at + 1) next) locks))

  -- a runner plays exactly where it stands as a play does
  pub as_play : (began : List Kept) (r : Running O) → IsPlaying layer kept began r
      → IsPlayed began (position_of layer kept r)
  as_play began r is = record { scene = is.scene; locks = is.locks }

  of_play : (began : List Kept) (r : Running O) → IsPlayed began (position_of layer kept r)
      → IsPlaying layer kept began r
  of_play began r is = record { scene = is.scene; locks = is.locks }

  pub plays_on : (began : List Kept) (old new : Running O) → IsPlaying layer kept began old
      → Advances layer kept old new → IsPlaying layer kept began new
  plays_on began old new is step =
      of_play began new (subst (IsPlayed began) (sym (advances_as old new step))
      (is_played_on began (position_of layer kept old) (as_play began old is)))

-- without a layer the states of a scene are the played configuration
pub scene_played : (plan : Plan) (script : Script) (began : List (Unit {0})) (t : ℕ)
    → (scene_at (plan_meaning plan) script no_layer began t).states ≡ played_at plan script t
scene_played plan script began zero = refl
scene_played plan script began (suc t) =
    let bare : (v : ℕ) (config : List State) (k : List (Unit {0}))
    → new_state (plan_meaning plan) no_layer k v (heard_at script t config v)
    ≡ step_of plan v (heard_at script t config v) = λ v config k.
    ap (λ (registers : List Reg). let s : State =
    record { x = (step_of plan v (heard_at script t config v)).x; registers = registers } in s)
    (append-nil (step_of plan v (heard_at script t config v)).registers) in
    let before = scene_at (plan_meaning plan) script no_layer began t in
    let behind : ℕ → State → State = λ v s. unwrap_or (hit_at script (t + 1) v) s in
    ap (λ (f : ℕ → State). map f (range_with_len 0 script.nodes))
    (fun_ext (λ v. ap (behind v) (bare v before.states (begun_kept no_layer t before.kept))))
    ∙ ap (λ (config : List State). map (λ v. behind v (step_of plan v (heard_at script t config v)))
    (range_with_len 0 script.nodes)) (scene_played plan script began t)

-- so a runner without one is at the configuration that is played
pub bare_is_played : BareRunnersArePlayed
bare_is_played r is = ap (λ (s : Scene (Unit {0})). s.states) is.scene
    ∙ scene_played r.plan r.script [] r.at

-- what a round of a runner's view is, is one of the runner
pub advances_of : {O Kept : Type 0} (layer : O → Layer Kept) (kept : O → List Kept)
    (old view new : Running O) → old ≡ view → Advances layer kept view new
    → Advances layer kept old new
advances_of layer kept old view new is step =
    subst (λ (r : Running _). Advances layer kept r new) (sym is) step
