use Rattle.std.proofs.Common.{◌≡◌, ◌∙◌, ap}
use Rattle.std.proofs.lemmas.Result.{IfOk-weaker}
use Rattle.construction.specs.Plans.{plan_depth, plan_nodes}
use Rattle.state_codec.specs.Shapes.{Shape, shape_nodes, shape_over}
use Rattle.state_codec.proofs.Plans.{depth_of_shape, nodes_of_shape}
use Rattle.state_codec.proofs.shapes.StateShape.of.Goals as goal

pub returns-clause-depth : goal.returns-clause-depth
returns-clause-depth c =
    IfOk-weaker c.over.result (λ shape. shape
    ≡ shape_over c.args.plan.now c.in_ok-items.items.items)
    (λ shape. shape.depth ≡ plan_depth c.args.plan.now)
    (λ shape e. ap (λ (s : Shape). s.depth)
    (e ∙ ap (shape_over c.args.plan.now) c.in_ok-items.ensures.value)
    ∙ depth_of_shape c.args.plan.now) c.over.ensures

pub returns-clause-nodes : goal.returns-clause-nodes
returns-clause-nodes c =
    IfOk-weaker c.over.result (λ shape. shape
    ≡ shape_over c.args.plan.now c.in_ok-items.items.items)
    (λ shape. shape_nodes shape ≡ plan_nodes c.args.plan.now)
    (λ shape e. ap shape_nodes e
    ∙ nodes_of_shape c.args.plan.now c.in_ok-items.items.items) c.over.ensures
