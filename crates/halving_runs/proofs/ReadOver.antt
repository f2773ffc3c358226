-- A script for a halving plan and states with a layer's registers is one for the plan's machine
-- with the layer above.
use Rattle.std.proofs.Common.{◌≡◌, ℕ, ◌≤◌, refl, sym, ◌∙◌, subst, arith}
use Rattle.state_codec.specs.Shapes.{Shape, shape_nodes}
use Rattle.counter_core.specs.Overlays.{Layer, LayerFits}
use Rattle.adversary_script.specs.Scripts.{Script}
use Rattle.adversary_script.specs.ScriptPart.{IsScriptFor}
use Rattle.player.specs.Counters.{machine_counter}
use Rattle.player.specs.ReadOver.{IsShapeOver, IsReadWithLayer}
use Rattle.layer_runner.proofs.MachinesSettle.{readers_fit}
use Rattle.halving_plan.specs.Plans.{HalvingNumbers, IsAccepted}
use Rattle.halving_plan.specs.Laws.{machine_in}
use Rattle.halving_plan.proofs.Sound.{nodes_are}
use Rattle.halving_runs.specs.LayerShapes.{shape_with}
use Rattle.halving_runs.specs.Readings.{IsScriptForHalving}
use Rattle.halving_runs.proofs.LayerShaped as shaped
use Rattle.halving_runs.proofs.Scripts.{faults_are}

module _ {Kept : Type 0} (plan : HalvingNumbers) (accepted : IsAccepted plan) (layer : Layer Kept)
    (least : 2 ≤ layer.values) (most : layer.values ≤ 65536)
    (over : LayerFits layer (machine_counter (machine_in plan))) where
  abbrev shape : Shape
  shape = shape_with plan layer.values layer.extra

  many : shape_nodes shape ≡ plan.nodes
  many = shaped.nodes_are plan accepted layer.values layer.extra least most

  is_shape_over : IsShapeOver (machine_in plan) layer shape
  is_shape_over = record {
    sound = shaped.is_shape plan accepted layer.values layer.extra least most;
    nodes = many ∙ sym (nodes_are plan accepted);
    depth = refl;
    fields = λ v lt.
        shaped.fields_are plan accepted layer.values layer.extra least most v
        (omega (arith, lt, nodes_are plan accepted));
  }

  pub read_over : (script : Script) → IsScriptForHalving plan shape script
      → IsReadWithLayer (machine_in plan) layer script
  read_over script for =
      readers_fit layer (machine_in plan) shape script is_shape_over
      (subst (λ (f : ℕ). IsScriptFor (shape_nodes shape) f shape script)
      (sym (faults_are plan accepted))
      (subst (λ (n : ℕ). IsScriptFor n plan.faults shape script) (sym many) for.right))
      for.whole over
