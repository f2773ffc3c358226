-- The shapes of the states of plans are those of their machines.
use Rattle.std.proofs.Common.{◌≡◌, refl, sym, ap, ◌∙◌, arith}
use Rattle.construction.specs.Plans.{Plan, plan_nodes, plan_depth}
use Rattle.state_codec.specs.Shapes.{Shape, IsShape, shape_of, shape_nodes, fields_at}
use Rattle.plan_machine.specs.PlanMachines.{machine_of_plan}
use Rattle.machine_runner.specs.Laws.{IsShapeOf}
use Rattle.halving_plan.specs.Plans.{HalvingNumbers, IsAccepted}
use Rattle.halving_plan.specs.Laws.{machine_in}
use Rattle.halving_plan.proofs.Sound.{nodes_are}
use Rattle.halving_texts.specs.HalvingShapes as halving
use Rattle.halving_texts.proofs.Shaped as shaped

pub boosting_fits : (plan : Plan) (shape : Shape) → IsShape shape → shape ≡ shape_of plan
    → shape.depth ≡ plan_depth plan → shape_nodes shape ≡ plan_nodes plan
    → IsShapeOf (machine_of_plan plan) shape
boosting_fits plan shape sound is depth nodes = record {
  sound = sound;
  nodes = nodes;
  depth = depth;
  fields = λ v lt. ap (λ (s : Shape). fields_at s v) is;
}

pub halving_fit : (plan : HalvingNumbers) → IsAccepted plan
    → IsShapeOf (machine_in plan) (halving.shape_of plan)
halving_fit plan accepted = record {
  sound = shaped.is_shape plan accepted;
  nodes = shaped.nodes_are plan accepted ∙ sym (nodes_are plan accepted);
  depth = refl;
  fields = λ v lt.
      shaped.fields_are plan accepted v (omega (arith, lt, nodes_are plan accepted));
}
