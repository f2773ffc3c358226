-- What is played of a script with a layer is the script's: its starts, its faulty sets, its lies.
use Rattle.std.specs.Prelude.{◌≡◌, ℕ, ◌+◌, ◌<◌, List, [], Some, None, slice_index_or}
use Rattle.sync_types.specs.States.{State}
use Rattle.construction.specs.Steps.{state_of}
use Rattle.construction.specs.Runs.{heard_by}
use Rattle.counter_core.specs.Meanings.{Meaning}
use Rattle.counter_core.specs.Overlays.{Layer}
use Rattle.adversary_script.specs.Scripts.{Script}
use Rattle.adversary_script.specs.Eras.{faulty_at}
use Rattle.adversary_script.specs.Lookup.{hit_at}
use Rattle.adversary_script.specs.Lies.{lie_of}
use Rattle.adversary_script.specs.Rounds.{starts, lies_at}
use Rattle.layer_laws.specs.CounterLayers.{StepsAs}
use Rattle.layer_laws.specs.CounterPlayed.{IsKeptFor}
use Rattle.layer_laws.specs.Scenes.{Scene, kept_of, layer_step}
use Rattle.layer_laws.specs.PlayedScenes.{scene_at}

module _ {Kept : Type 0} (counter : Meaning) (script : Script) (layer : Layer Kept)
    (began : List Kept) where
  -- scene t of what is played, if the nodes began with these things kept
  abbrev pub played_scene : (t : ℕ) → Scene Kept
  played_scene t = scene_at counter script layer began t

  -- what the script lets each node tell each other in round t
  abbrev pub lies_played : (t : ℕ) → List (List State)
  lies_played t = lies_at script t (played_scene t).states

  -- what node v hears in round t
  abbrev pub heard_played : (t v : ℕ) → List State
  heard_played t v =
      heard_by counter.nodes (faulty_at script t) (played_scene t).states (lies_played t) v

  -- The first scene has the script's starts. After a round, also if an era begins there, a node
  -- that has a start line there is in its state, and each other one steps from what it hears, also
  -- the puppet of a faulty one. What each node keeps is what the layer's step left, also if the
  -- node is put into a state. In each round the lies are the script's: what a faulty node tells
  -- another is what the first lie of the script that says this gives, or else its puppet's state.
  pub record PlaysScript : Type 0 where
    pub starts : played_scene 0 ≡ record { states = starts script; kept = began }
    pub puts : (t v : ℕ) (state : State) → t < script.rounds → v < counter.nodes
        → hit_at script (t + 1) v ≡ Some state
        → state_of (played_scene (t + 1)).states v ≡ state
    pub steps : (t v : ℕ) → t < script.rounds → v < counter.nodes
        → hit_at script (t + 1) v ≡ None
        → StepsAs counter layer t (played_scene t) (heard_played t v) v (played_scene (t + 1))
    pub kept : (t v : ℕ) → t < script.rounds → v < counter.nodes
        → kept_of layer (played_scene (t + 1)) v
        ≡ (layer_step counter layer t (kept_of layer (played_scene t) v) v
        (heard_played t v)).kept
    pub told : (t u v : ℕ) → t < script.rounds → u < counter.nodes → v < counter.nodes
        → state_of (slice_index_or (lies_played t) u []) v
        ≡ lie_of script t u v (played_scene t).states

-- What is played of a script of a counter's nodes is the script's, if something is kept for each of
-- them.
abbrev pub ScriptsArePlayedOver : {Kept : Type 0} → Layer Kept → Type 0
ScriptsArePlayedOver {Kept} layer = (counter : Meaning) (script : Script) (began : List Kept)
    → script.nodes ≡ counter.nodes → IsKeptFor counter.nodes began
    → PlaysScript counter script layer began
