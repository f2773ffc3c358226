-- A configuration with a layer above a counter, and the step of a node with its layer.
use Rattle.std.specs.Prelude.{ℕ, List, ◌++◌, slice_index_or}
use Rattle.sync_types.specs.States.{State}
use Rattle.construction.specs.Steps.{state_of}
use Rattle.counter_core.specs.Meanings.{Meaning}
use Rattle.counter_core.specs.Overlays.{Layer, LayerStep}

-- a configuration, and what the nodes keep beside their states
pub record Scene (Kept : Type 0) : Type 0 where
  pub states : List State
  pub kept : List Kept

-- what node v keeps
abbrev pub kept_of : {Kept : Type 0} → Layer Kept → Scene Kept → (v : ℕ) → Kept
kept_of layer scene v = slice_index_or scene.kept v layer.first

-- The layer's step of node v in the round of a number, from what it kept: the round begins, and
-- then it goes on by the output that it shows itself and by what it hears.
abbrev pub layer_step : {Kept : Type 0} → Meaning → Layer Kept → (at : ℕ) → Kept → (v : ℕ)
    → (heard : List State) → LayerStep Kept
layer_step counter layer at kept v heard =
    layer.next v (layer.begun at kept) (counter.shows v (state_of heard v)) heard

-- the new state of node v: the counter's registers, and after them the layer's
abbrev pub new_state : {Kept : Type 0} → Meaning → Layer Kept → (at : ℕ) → Kept → (v : ℕ)
    → (heard : List State) → State
new_state counter layer at kept v heard = record {
  x = (counter.next v heard).x;
  registers = (counter.next v heard).registers
      ++ (layer_step counter layer at kept v heard).registers;
}
