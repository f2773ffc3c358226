-- What is wanted of a plan, and the plan that is to be found.
use Rattle.std.specs.Prelude.{◌≡◌, ℕ, ◌≤◌, Option, Some, None}
use Rattle.construction.specs.Plans.{Plan, plan_nodes, plan_faults, plan_modulus}
use Rattle.plan_numbers.specs.Premises.{IsAccepted}
use Rattle.plan_finder.specs.Orders.{IsBefore}

-- an accepted plan of version 1 that tolerates f faults and counts by c, with so many nodes at most
pub record MeetsWants (f c most : ℕ) (plan : Plan) : Type 0 where
  pub accepted : IsAccepted plan
  pub version : plan.version ≡ 1
  pub faults : plan_faults plan ≡ f
  pub modulus : plan_modulus plan ≡ c
  pub nodes : plan_nodes plan ≤ most

-- no plan that meets the wants is before it
pub record IsLeastPlan (f c most : ℕ) (plan : Plan) : Type 0 where
  pub meets : MeetsWants f c most plan
  pub least : (other : Plan) → MeetsWants f c most other → ¬ IsBefore other plan

-- the least plan that meets the wants, or none if no plan does
abbrev pub IsPlanFor : (f c most : ℕ) → Option Plan → Type 0
IsPlanFor f c most (Some plan) = IsLeastPlan f c most plan
IsPlanFor f c most None = (other : Plan) → ¬ MeetsWants f c most other
