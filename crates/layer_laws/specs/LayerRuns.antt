-- Rounds and runs of a plan with a layer above: those of its counter, whose nodes have the plan's
-- states.
use Rattle.std.specs.Prelude.{ℕ, List}
use Rattle.sync_types.specs.States.{State}
use Rattle.construction.specs.Plans.{Plan}
use Rattle.construction.specs.Runs.{IsState}
use Rattle.plan_laws.specs.PlanMeaning.{plan_meaning}
use Rattle.counter_core.specs.Overlays.{Layer}
use Rattle.layer_laws.specs.Scenes.{Scene}
use Rattle.layer_laws.specs.CounterLayers as counters
pub use Rattle.layer_laws.specs.CounterLayers.{scene}

module _ {Kept : Type 0} (plan : Plan) (layer : Layer Kept) where
  abbrev pub IsLayerState : (v : ℕ) → State → Type 0
  IsLayerState = counters.IsLayerState (plan_meaning plan) (IsState plan) layer

  abbrev pub IsLayerConfiguration : List State → Type 0
  IsLayerConfiguration = counters.IsLayerConfiguration (plan_meaning plan) (IsState plan) layer

  abbrev pub IsLayerTold : (u : ℕ) → (told : List State) → Type 0
  IsLayerTold = counters.IsLayerTold (plan_meaning plan) (IsState plan) layer

  abbrev pub IsLayerTable : (lies : List (List State)) → Type 0
  IsLayerTable = counters.IsLayerTable (plan_meaning plan) (IsState plan) layer

  abbrev pub StepsAs : (at : ℕ) (old : Scene Kept) (heard : List State) (v : ℕ) (new : Scene Kept)
      → Type 0
  StepsAs = counters.StepsAs (plan_meaning plan) layer

  abbrev pub LayerRound : (faulty : List ℕ) (at : ℕ) (old : Scene Kept) (lies : List (List State))
      (new : Scene Kept) → Type 0
  LayerRound = counters.LayerRound (plan_meaning plan) (IsState plan) layer

  abbrev pub IsNextScene : (faulty : List ℕ) (at : ℕ) (old new : Scene Kept) → Type 0
  IsNextScene = counters.IsNextScene (plan_meaning plan) (IsState plan) layer

  abbrev pub LayerRun : (faulty : List ℕ) (first : ℕ) (run : List (Scene Kept)) → Type 0
  LayerRun = counters.LayerRun (plan_meaning plan) (IsState plan) layer

  abbrev pub NodeSteps : (faulty : List ℕ) (first : ℕ) (run : List (Scene Kept)) (t v : ℕ) → Type 0
  NodeSteps = counters.NodeSteps (plan_meaning plan) (IsState plan) layer

-- the run without the layer: each state cut to the plan's registers, and nothing kept
abbrev pub without_layer : {Kept : Type 0} → Plan → List (Scene Kept) → List (List State)
without_layer plan run = counters.without_layer (plan_meaning plan) run
