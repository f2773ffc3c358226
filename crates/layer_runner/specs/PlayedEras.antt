-- What is played of each era of a script on a settling counter is a run with the layer.
use Rattle.std.specs.Prelude.{ℕ, ◌≤◌, List, length, All}
use Rattle.sync_types.specs.States.{State}
use Rattle.counter_core.specs.Meanings.{Meaning}
use Rattle.counter_core.specs.Overlays.{Layer}
use Rattle.adversary_script.specs.Scripts.{Script, IsScript, faulty_sets}
use Rattle.adversary_script.specs.Eras.{first_of_era, faulty_of_era}
use Rattle.machine_runner.specs.Eras.{of_era}
use Rattle.layer_laws.specs.Counters.{Bears, IsSettling}
use Rattle.layer_laws.specs.CounterLayers.{LayerRun}
use Rattle.layer_laws.specs.Scenes.{Scene}
use Rattle.layer_laws.specs.PlayedScenes.{scene_at}

-- the scenes of era j, if the nodes began with these things kept
abbrev pub era_scenes : {Kept : Type 0} (counter : Meaning) (script : Script) (layer : Layer Kept)
    (began : List Kept) (j : ℕ) → List (Scene Kept)
era_scenes counter script layer began j = of_era script (scene_at counter script layer began) j

-- The counter is settling, and tolerates the faulty set of each era. What is played of an era is a
-- run with the layer, with that era's faulty nodes, whose first round is that of the era's first
-- configuration.
pub record PlaysEras {Kept : Type 0} (counter : Meaning) (is_state : (v : ℕ) → State → Type 0)
    (script : Script) (layer : Layer Kept) (began : List Kept) : Type 0 where
  pub settling : IsSettling counter is_state
  pub whole : IsScript script
  pub borne : All (Bears counter) (faulty_sets script)
  pub eras : (j : ℕ) → j ≤ length script.eras → LayerRun counter is_state layer
      (faulty_of_era script j) (first_of_era script j) (era_scenes counter script layer began j)
