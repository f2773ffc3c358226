-- What is played of a script with a layer is the script's: its starts, its faulty sets, its lies.
use Rattle.std.specs.Prelude.{ℕ, ◌+◌, ◌<◌, ◌≤◌, List, length}
use Rattle.sync_types.specs.States.{State}
use Rattle.construction.specs.Plans.{Plan, plan_nodes}
use Rattle.construction.specs.Runs.{IsToleratedBy}
use Rattle.plan_numbers.specs.Premises.{IsAccepted}
use Rattle.plan_laws.specs.PlanMeaning.{plan_meaning}
use Rattle.state_codec.specs.Shapes.{IsShape}
use Rattle.counter_core.specs.Overlays.{Layer, KeepsRange}
use Rattle.adversary_script.specs.Scripts.{Script, IsScript}
use Rattle.adversary_script.specs.Eras.{first_of_era, end_of_era, faulty_of_era}
use Rattle.layer_laws.specs.Scenes.{Scene}
use Rattle.layer_laws.specs.LayerRuns.{LayerRun, LayerRound}
use Rattle.layer_laws.specs.Played.{IsKeptFor}
use Rattle.round_runner.specs.Runners.{IsPlayableOn}
use Rattle.layer_runner.specs.PlayedEras as eras
use Rattle.layer_runner.specs.PlayedScripts as any
use Rattle.promises.specs.SaidLines.{SaysLines}

-- a script that was read for an accepted plan, with the layer's registers after those of the plan
pub record IsReadFor {Kept : Type 0} (plan : Plan) (layer : Layer Kept) (script : Script)
    : Type 0 where
  pub accepted : IsAccepted plan
  pub right : IsPlayableOn plan layer script
  pub whole : IsScript script
  pub sound : IsShape script.shape

module _ {Kept : Type 0} (plan : Plan) (script : Script) (layer : Layer Kept)
    (began : List Kept) where
  -- scene t of what is played, if the nodes began with these things kept
  abbrev pub played_scene : (t : ℕ) → Scene Kept
  played_scene t = any.played_scene (plan_meaning plan) script layer began t

  -- what the script lets each node tell each other in round t
  abbrev pub lies_played : (t : ℕ) → List (List State)
  lies_played t = any.lies_played (plan_meaning plan) script layer began t

  -- the scenes of era j
  abbrev pub era_scenes : (j : ℕ) → List (Scene Kept)
  era_scenes j = eras.era_scenes (plan_meaning plan) script layer began j

  -- What is played of era j is a run with the layer, with that era's faulty nodes, and each of its
  -- rounds has what the script lets these tell as its table of lies.
  pub record EraIsLayerRun (j : ℕ) : Type 0 where
    pub run : LayerRun plan layer (faulty_of_era script j) (first_of_era script j) (era_scenes j)
    pub rounds : (t : ℕ) → first_of_era script j ≤ t → t + 1 < end_of_era script j
        → LayerRound plan layer (faulty_of_era script j) t (played_scene t) (lies_played t)
        (played_scene (t + 1))

  -- The lines of the script say what its eras, its starts and its lies are, and what is played has
  -- these. Each era is a run, with few faulty nodes.
  pub record PlaysScript : Type 0 where
    pub says : SaysLines script
    pub plays : any.PlaysScript (plan_meaning plan) script layer began
    pub borne : (j : ℕ) → j ≤ length script.eras → IsToleratedBy plan (faulty_of_era script j)
    pub eras : (j : ℕ) → j ≤ length script.eras → EraIsLayerRun j

-- What is played of a script with a layer whose step keeps values in range is the script's.
abbrev pub ScriptsArePlayed : {Kept : Type 0} → Layer Kept → Type 0
ScriptsArePlayed layer = (plan : Plan) (script : Script) → KeepsRange layer
    → IsReadFor plan layer script → (began : List _) → IsKeptFor (plan_nodes plan) began
    → PlaysScript plan script layer began
