-- What the functions that name an answer come to: the plan is the least one for the wants, and the
-- pairs have their least costs.
use Rattle.std.specs.Prelude.{ℕ, List, Option, IfOk}
use Rattle.construction.specs.Plans.{Plan}
use Rattle.plan_finder.specs.declared.wants.Want.{Want}
use Rattle.plan_finder.specs.declared.pots.Pot.{Pot}
use Rattle.plan_finder.specs.Wanted.{IsPlanFor}
use Rattle.plan_finder.specs.Costs.{AreLeastCosts}
use Rattle.plan_finder.specs.Potentials.{ArePotentials, bound_in}
use Rattle.plan_finder.specs.FindPart.{want_of}
use Rattle.plan_finder.specs.Least.{find_plan, costs_of}

-- The plan is the least accepted one that meets the wants, and there is none if no plan does. In
-- rising order each pair that steps reach is there with its least cost, so no plan that meets the
-- wants settles in less than this one, and the pairs show it.
pub record IsAnswerFor (want : Want) (plan : Option Plan) (pots : List Pot) : Type 0 where
  pub least : IsPlanFor want.faults want.modulus want.most plan
  pub costs : AreLeastCosts want.most pots
  pub passes : ArePotentials want.faults want.most (bound_in plan) pots

-- the plan and the pairs that are defined for the wants of an input
abbrev pub FindsLeast : Type 0
FindsLeast = (input : List ℕ) → IfOk (want_of input)
    (λ want. IsAnswerFor want (find_plan want.faults want.modulus want.most) (costs_of want.most))
