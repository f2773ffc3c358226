-- The run of a script on a counter with a layer above: the layer's step is added to each step.
use Rattle.std.specs.Prelude.{ℕ, zero, suc, ◌+◌, List, ◌++◌, length, map, nat_lt, slice_index_or}
use Rattle.std.specs.Prelude.{unwrap_or, if◌then◌else◌}
use Rattle.std.specs.List.{range_with_len}
use Rattle.sync_types.specs.States.{State}
use Rattle.construction.specs.Steps.{state_of}
use Rattle.counter_core.specs.Meanings.{Meaning}
use Rattle.counter_core.specs.Overlays.{Layer, LayerStep, after}
use Rattle.adversary_script.specs.Scripts.{Script}
use Rattle.adversary_script.specs.Lookup.{hit_at}
use Rattle.layer_laws.specs.Scenes.{Scene}
use Rattle.adversary_script.specs.Rounds.{starts, heard_at}

-- what the nodes keep when round t has begun
abbrev pub begun_kept : {Kept : Type 0} → Layer Kept → (t : ℕ) → (kept : List Kept) → List Kept
begun_kept layer t kept = map (layer.begun t) kept

-- the layer's step of node v in a round that has begun, from the output that it shows itself
abbrev pub layer_step : {Kept : Type 0} → Meaning → Layer Kept → (kept : List Kept) → (v : ℕ)
    → (heard : List State) → LayerStep Kept
layer_step counter layer kept v heard = after layer kept v
    (counter.shows v (state_of heard v)) heard

-- the new state of node v: the counter's registers, and after them the layer's
abbrev pub new_state : {Kept : Type 0} → Meaning → Layer Kept → (kept : List Kept) → (v : ℕ)
    → (heard : List State) → State
new_state counter layer kept v heard = record {
  x = (counter.next v heard).x;
  registers =
      (counter.next v heard).registers ++ (layer_step counter layer kept v heard).registers;
}

-- the state of node v after round t: its new state, or that into which it is put if an era begins
abbrev pub state_behind : {Kept : Type 0} → Meaning → Script → Layer Kept → (t : ℕ) → List State
    → (kept : List Kept) → (v : ℕ) → State
state_behind counter script layer t states kept v =
    unwrap_or (hit_at script (t + 1) v) (new_state counter layer kept v
    (heard_at script t states v))

-- what is kept at place v after round t: what the layer's step left, also if the node is put into a
-- state
abbrev pub kept_at : {Kept : Type 0} → Meaning → Script → Layer Kept → (t : ℕ) → List State
    → (kept : List Kept) → (v : ℕ) → Kept
kept_at counter script layer t states kept v =
    if nat_lt v script.nodes then (layer_step counter layer kept v
    (heard_at script t states v)).kept else slice_index_or kept v layer.first

module _ {Kept : Type 0} (counter : Meaning) (script : Script) (layer : Layer Kept) where
  -- the scene after round t has begun with these things kept, and all nodes have stepped
  abbrev pub stepped_scene : (t : ℕ) → List State → (kept : List Kept) → Scene Kept
  stepped_scene t states kept = record {
    states = map (state_behind counter script layer t states kept)
        (range_with_len 0 script.nodes);
    kept = map (kept_at counter script layer t states kept) (range_with_len 0 (length kept));
  }

  -- the scene after round t
  abbrev pub next_scene : (t : ℕ) → Scene Kept → Scene Kept
  next_scene t scene = stepped_scene t scene.states (begun_kept layer t scene.kept)

  -- scene t, if the nodes begin with these things kept
  abbrev pub scene_at : (kept : List Kept) → ℕ → Scene Kept
  scene_at kept zero = record { states = starts script; kept = kept }
  scene_at kept (suc t) = next_scene t (scene_at kept t)
