-- What correct nodes show in a run of a plan with a layer, once the plan's bound is past.
use Rattle.std.proofs.Common.{◌≡◌, ℕ, ◌<◌, ◌≤◌, false, List, length}
use Rattle.construction.specs.Plans.{Plan, plan_nodes, plan_bound, plan_depth}
use Rattle.construction.specs.Shown.{shown}
use Rattle.construction.specs.Steps.{state_of}
use Rattle.construction.specs.Runs.{is_in, IsState, Counts}
use Rattle.plan_laws.specs.PlanMeaning.{plan_meaning}
use Rattle.counter_core.specs.Overlays.{Layer}
use Rattle.layer_laws.specs.Scenes.{Scene}
use Rattle.layer_laws.specs.LayerRuns.{LayerRun, scene, without_layer}
use Rattle.layer_laws.proofs.PlanCounters.{front_of_plan}
use Rattle.layer_laws.proofs.CounterSteps as counters

module _ {Kept : Type 0} (plan : Plan) (layer : Layer Kept) (faulty : List ℕ) (first : ℕ)
    (run : List (Scene Kept)) (is : LayerRun plan layer faulty first run)
    (counts : Counts plan faulty (without_layer plan run)) where
  pub shown_at : (t v : ℕ) → plan_bound plan ≤ t → t < length run → v < plan_nodes plan
      → is_in faulty v ≡ false
      → shown (plan_depth plan) (state_of (scene run t).states v) ≡ counts.output t
  shown_at =
      counters.shown_at (plan_meaning plan) (IsState plan) layer faulty first run is
      (front_of_plan plan) counts
