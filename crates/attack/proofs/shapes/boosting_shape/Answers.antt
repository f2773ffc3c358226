use Rattle.attack.proofs.PlanShapes.{boosting_fits}
use Rattle.attack.proofs.shapes.boosting_shape.Goals as goal

pub returns-clause-fits : goal.returns-clause-fits
returns-clause-fits c =
    boosting_fits c.args.plan.now c.in_ok-shape.shape c.facts.ensures c.in_ok-shape.ensures.shape
    c.in_ok-shape.ensures.depth c.in_ok-shape.ensures.nodes
