-- Scenes that are played on a plan: those on its counter.
use Rattle.std.specs.Prelude.{ℕ, List}
use Rattle.sync_types.specs.States.{State}
use Rattle.construction.specs.Plans.{Plan}
use Rattle.construction.specs.Runs.{IsState}
use Rattle.plan_laws.specs.PlanMeaning.{plan_meaning}
use Rattle.counter_core.specs.Overlays.{Layer}
use Rattle.layer_laws.specs.Scenes.{Scene}
use Rattle.layer_laws.specs.CounterPlayed as counters
pub use Rattle.layer_laws.specs.CounterPlayed.{Telling, IsKeptFor}

module _ {Kept : Type 0} (plan : Plan) (layer : Layer Kept) (faulty : List ℕ) (lie : Telling) where
  abbrev pub lies_in : (t : ℕ) → List State → List (List State)
  lies_in = counters.lies_in (plan_meaning plan) layer faulty lie

  abbrev pub heard_in : (t : ℕ) → List State → (v : ℕ) → List State
  heard_in = counters.heard_in (plan_meaning plan) layer faulty lie

  abbrev pub state_after : (t : ℕ) → Scene Kept → (v : ℕ) → State
  state_after = counters.state_after (plan_meaning plan) layer faulty lie

  abbrev pub kept_after : (t : ℕ) → Scene Kept → (v : ℕ) → Kept
  kept_after = counters.kept_after (plan_meaning plan) layer faulty lie

  abbrev pub next_scene : (t : ℕ) → Scene Kept → Scene Kept
  next_scene = counters.next_scene (plan_meaning plan) layer faulty lie

  abbrev pub scene_after : (first : ℕ) → Scene Kept → (rounds : ℕ) → Scene Kept
  scene_after = counters.scene_after (plan_meaning plan) layer faulty lie

  abbrev pub era_from : (first : ℕ) → Scene Kept → (rounds : ℕ) → List (Scene Kept)
  era_from = counters.era_from (plan_meaning plan) layer faulty lie

  -- what is told is in range, if the configuration is
  abbrev pub TellsInRange : Type 0
  TellsInRange = counters.TellsInRange (plan_meaning plan) (IsState plan) layer lie
