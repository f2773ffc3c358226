-- What liars say to a node.
use Rattle.std.specs.Prelude.{◌≤◌, List, length, All}
use Rattle.sync_types.specs.States.{State}
use Rattle.construction.specs.Plans.{Plan, plan_depth}
use Rattle.plan_laws.specs.PlanMeaning.{IsInRange}

-- states in range of a plan, each with a register for each level
pub record AreTold (plan : Plan) (lies : List State) : Type 0 where
  pub range : All (IsInRange plan) lies
  pub deep : All (λ s. plan_depth plan ≤ length s.registers) lies
