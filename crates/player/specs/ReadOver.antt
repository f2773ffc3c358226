-- A script that was read for a machine with a layer above.
use Rattle.std.specs.Prelude.{◌≡◌, ℕ, ◌+◌, ◌<◌}
use Rattle.state_codec.specs.Shapes.{Shape, IsShape, fields_at, shape_nodes, with_further}
use Rattle.machines.specs.Machines.{Machine}
use Rattle.counter_core.specs.Overlays.{Layer, LayerFits}
use Rattle.adversary_script.specs.Scripts.{Script, IsScript}
use Rattle.adversary_script.specs.ScriptPart.{IsScriptFor}
use Rattle.player.specs.Counters.{machine_counter}

-- The shape of a machine's states with the layer's registers after the machine's own.
pub record IsShapeOver {Kept : Type 0} (machine : Machine) (layer : Layer Kept) (shape : Shape)
    : Type 0 where
  pub sound : IsShape shape
  pub nodes : shape_nodes shape ≡ machine.nodes
  pub depth : shape.depth ≡ machine.depth + layer.extra
  pub fields : (v : ℕ) → v < machine.nodes
      → fields_at shape v ≡ with_further (machine.fields v) layer.values layer.extra

-- A script that was read for a machine's nodes and faults and for such states; the layer stands
-- over the machine.
pub record IsReadWithLayer {Kept : Type 0} (machine : Machine) (layer : Layer Kept)
    (script : Script)
    : Type 0 where
  pub shape : IsShapeOver machine layer script.shape
  pub right : IsScriptFor machine.nodes machine.faults script.shape script
  pub whole : IsScript script
  pub over : LayerFits layer (machine_counter machine)
