use Rattle.std.proofs.Common.{sym, subst, ◌∙◌}
use Rattle.plan_finder.specs.Costs.{AreLeastCosts}
use Rattle.plan_finder.proofs.Answered.{plan_for, costs_pass}
use Rattle.plan_finder.proofs.Enumerated.{plan_found}
use Rattle.plan_finder.proofs.finding.find.Goals as goal

pub returns-clause-plan : goal.returns-clause-plan
returns-clause-plan c =
    plan_for c.args.f c.args.c c.args.most c.best_with-best.result c.in_ok-plan.plan
    c.best_with-best.ensures c.in_ok-plan.ensures

pub returns-clause-passes : goal.returns-clause-passes
returns-clause-passes c =
    let costs = subst (AreLeastCosts c.args.most) (sym c.new-pots.ensures)
    c.in_ok-least_costs.ensures.costs in
    costs_pass c.args.most c.requires.most.0 c.new-pots.result costs c.args.f c.args.c
    c.best_with-best.result c.in_ok-plan.plan c.best_with-best.ensures c.in_ok-plan.ensures

pub returns-clause-exact : goal.returns-clause-exact
returns-clause-exact c = (
  plan_found c.args.most c.requires.most.0 c.requires.most.1 c.args.f c.args.c
      c.best_with-best.result c.in_ok-plan.plan c.best_with-best.ensures c.in_ok-plan.ensures,
  c.new-pots.ensures ∙ c.in_ok-least_costs.ensures.exact,
)
