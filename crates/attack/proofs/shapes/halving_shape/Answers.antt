use Rattle.std.proofs.Common.{sym, subst}
use Rattle.std.proofs.lemmas.Result.{IfOk-weaker}
use Rattle.machine_runner.specs.Laws.{IsShapeOf}
use Rattle.halving_plan.specs.Laws.{machine_in}
use Rattle.attack.proofs.PlanShapes.{halving_fit}
use Rattle.attack.proofs.shapes.halving_shape.Goals as goal

pub returns-clause-fits : goal.returns-clause-fits
returns-clause-fits c =
    let plan = c.args.plan.now in
    IfOk-weaker c.shape_of.result _ _
    (λ shape is. subst (IsShapeOf (machine_in plan)) (sym is) (halving_fit plan c.facts.ensures))
    c.shape_of.ensures
