-- Scenes that are played: all nodes step, the puppets of faulty ones too, and what a faulty node
-- tells follows from the round, the receiver and the configuration.
use Rattle.std.specs.Prelude.{◌≡◌, ℕ, zero, suc, ◌+◌, ◌<◌, ◌≤◌, ◌⊎◌, nat_lt, if◌then◌else◌, List}
use Rattle.std.specs.Prelude.{length, map}
use Rattle.std.specs.List.{range_with_len}
use Rattle.sync_types.specs.States.{State}
use Rattle.construction.specs.Runs.{heard_by}
use Rattle.counter_core.specs.Meanings.{Meaning}
use Rattle.counter_core.specs.Overlays.{Layer}
use Rattle.layer_laws.specs.Scenes.{Scene, kept_of, layer_step, new_state}
use Rattle.layer_laws.specs.CounterLayers.{IsLayerState, IsLayerConfiguration}

-- what node u tells node v in round t, which begins with that configuration
abbrev pub Telling : Type 0
Telling = (t u v : ℕ) → List State → State

-- something is kept for each of n nodes, or there is nothing to tell apart
abbrev pub IsKeptFor : {Kept : Type 0} → (n : ℕ) → (kept : List Kept) → Type 0
IsKeptFor {Kept} n kept = ((x y : Kept) → x ≡ y) ⊎ (n ≤ length kept)

-- what is told is in range, if the configuration is
abbrev pub TellsInRange : {Kept : Type 0} (counter : Meaning)
    (is_state : (v : ℕ) → State → Type 0) (layer : Layer Kept) (lie : Telling) → Type 0
TellsInRange counter is_state layer lie = (t u v : ℕ) (config : List State)
    → u < counter.nodes → v < counter.nodes
    → IsLayerConfiguration counter is_state layer config
    → IsLayerState counter is_state layer u (lie t u v config)

module _ {Kept : Type 0} (counter : Meaning) (layer : Layer Kept) (faulty : List ℕ)
    (lie : Telling) where
  -- what each node tells each other in round t; what correct nodes would tell is not heard
  abbrev pub lies_in : (t : ℕ) → List State → List (List State)
  lies_in t config = map (λ u. map (λ v. lie t u v config) (range_with_len 0 counter.nodes))
      (range_with_len 0 counter.nodes)

  -- what node v hears in round t
  abbrev pub heard_in : (t : ℕ) → List State → (v : ℕ) → List State
  heard_in t config v = heard_by counter.nodes faulty config (lies_in t config) v

  -- the state of node v after round t
  abbrev pub state_after : (t : ℕ) → Scene Kept → (v : ℕ) → State
  state_after t scene v =
      new_state counter layer t (kept_of layer scene v) v (heard_in t scene.states v)

  -- what is kept at place v after round t
  abbrev pub kept_after : (t : ℕ) → Scene Kept → (v : ℕ) → Kept
  kept_after t scene v =
      if nat_lt v counter.nodes
      then (layer_step counter layer t (kept_of layer scene v) v (heard_in t scene.states v)).kept
      else kept_of layer scene v

  -- the scene after round t; as many things are kept as before
  abbrev pub next_scene : (t : ℕ) → Scene Kept → Scene Kept
  next_scene t scene = record {
    states = map (state_after t scene) (range_with_len 0 counter.nodes);
    kept = map (kept_after t scene) (range_with_len 0 (length scene.kept));
  }

  -- the scene so many rounds after one in which round `first` begins
  abbrev pub scene_after : (first : ℕ) → Scene Kept → (rounds : ℕ) → Scene Kept
  scene_after first scene zero = scene
  scene_after first scene (suc t) = next_scene (first + t) (scene_after first scene t)

  -- an era: that scene, and those after each of so many rounds
  abbrev pub era_from : (first : ℕ) → Scene Kept → (rounds : ℕ) → List (Scene Kept)
  era_from first scene rounds = map (scene_after first scene) (range_with_len 0 (rounds + 1))
