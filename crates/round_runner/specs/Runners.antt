-- What a runner of a script is, and that it plays the script.
use Rattle.std.specs.Prelude.{◌≡◌, ℕ, ◌+◌, List, All, Option}
use Rattle.sync_types.specs.States.{State}
use Rattle.construction.specs.Plans.{Plan, plan_nodes}
use Rattle.construction.specs.Runs.{IsToleratedBy}
use Rattle.plan_laws.specs.PlanMeaning.{plan_meaning}
use Rattle.state_codec.specs.Shapes.{shape_with}
use Rattle.counter_core.specs.Overlays.{Layer, LayerFits}
use Rattle.adversary_script.specs.Scripts.{Script, faulty_sets}
use Rattle.machine_runner.specs.FirstLocked.{begun_locks, next_locks, known_locks}
use Rattle.round_runner.specs.Locks.{is_locked}
use Rattle.round_runner.specs.Played.{starts}
use Rattle.layer_laws.specs.Scenes.{Scene}
use Rattle.layer_laws.specs.Positions.{Position}
use Rattle.layer_laws.specs.PlayedScenes.{next_scene, scene_at}

-- A runner: its plan, script and layer, and configuration `at`; of each era the first configuration
-- so far that is locked.
pub record Running (O : Type 0) : Type 0 where
  pub plan : Plan
  pub script : Script
  pub overlay : O
  pub at : ℕ
  pub states : List State
  pub locks : List (Option ℕ)

-- The script was read for the plan, and states have the layer's registers after those of the plan.
pub record IsPlayableOn {Kept : Type 0} (plan : Plan) (layer : Layer Kept)
    (script : Script) : Type 0 where
  pub nodes : script.nodes ≡ plan_nodes plan
  pub shape : script.shape ≡ shape_with plan layer.values layer.extra
  pub over : LayerFits layer (plan_meaning plan)
  pub borne : All (IsToleratedBy plan) (faulty_sets script)

-- the runner before its first round
abbrev pub begun : {O : Type 0} → Plan → Script → O → Running O
begun plan script overlay = record {
  plan = plan;
  script = script;
  overlay = overlay;
  at = 0;
  states = starts script;
  locks = begun_locks (is_locked plan) script (starts script);
}

-- the scene of a runner
abbrev pub scene_of : {O Kept : Type 0} → (kept_of : O → List Kept) → Running O → Scene Kept
scene_of kept_of r = record { states = r.states; kept = kept_of r.overlay }

-- What a round does: the layer's step is added to each step.
pub record Advances {O Kept : Type 0} (layer_of : O → Layer Kept) (kept_of : O → List Kept)
    (old new : Running O) : Type 0 where
  pub plan : new.plan ≡ old.plan
  pub script : new.script ≡ old.script
  pub layer : layer_of new.overlay ≡ layer_of old.overlay
  pub at : new.at ≡ old.at + 1
  pub scene : scene_of kept_of new ≡ next_scene (plan_meaning old.plan) old.script
      (layer_of old.overlay) old.at (scene_of kept_of old)
  pub locks : new.locks ≡ next_locks (is_locked old.plan) old.script old.locks new.at new.states

-- scene t of what a runner plays, with a layer in which the nodes began with these things kept
abbrev pub played_scene : {O Kept : Type 0} → (layer_of : O → Layer Kept) → (began : List Kept)
    → Running O → ℕ → Scene Kept
played_scene layer_of began r t = scene_at (plan_meaning r.plan) r.script
    (layer_of r.overlay) began t

-- configuration t of it
abbrev pub configuration_of : {O Kept : Type 0} → (layer_of : O → Layer Kept) → (began : List Kept)
    → Running O → ℕ → List State
configuration_of layer_of began r t = (played_scene layer_of began r t).states

-- where it stands, as a play on any counter
abbrev pub position_of : {O Kept : Type 0} → (layer_of : O → Layer Kept)
    → (kept_of : O → List Kept) → Running O → Position Kept
position_of layer_of kept_of r = record {
  counter = plan_meaning r.plan;
  locked = is_locked r.plan;
  script = r.script;
  layer = layer_of r.overlay;
  at = r.at;
  scene = scene_of kept_of r;
  locks = r.locks;
}

-- The runner plays the script, with a layer in which the nodes began with these things kept: its
-- configuration is always the played one.
pub record IsPlaying {O Kept : Type 0} (layer_of : O → Layer Kept) (kept_of : O → List Kept)
    (began : List Kept) (r : Running O) : Type 0 where
  pub scene : scene_of kept_of r ≡ played_scene layer_of began r r.at
  pub locks : r.locks
      ≡ known_locks (is_locked r.plan) r.script (configuration_of layer_of began r) r.at
