-- A boosting plan, and the halving plan that tolerates as many faults and counts by the same
-- number.
use Rattle.std.specs.Prelude.{ℕ, ◌+◌, ◌*◌, ◌<◌, ◌≤◌}
use Rattle.construction.specs.Plans.{Plan, plan_nodes, plan_faults, plan_modulus, plan_bound}
use Rattle.plan_numbers.specs.Premises as boosting
use Rattle.halving_plan.specs.Trees.{tree_bound}
use Rattle.halving_plan.specs.Plans as halving
use Rattle.halving_plan.specs.Plans.{HalvingNumbers}

-- the halving plan of fewest nodes that tolerates f faults and counts by c
abbrev pub fewest : (f c : ℕ) → HalvingNumbers
fewest f c = record { nodes = 3 * f + 1; faults = f; modulus = c }

-- the halving plan of as many faults, with the same modulus
abbrev pub halved : Plan → HalvingNumbers
halved plan = fewest (plan_faults plan) (plan_modulus plan)

-- it is accepted, has no more nodes, and counts sooner
pub record IsOutdone (plan : Plan) : Type 0 where
  pub accepted : halving.IsAccepted (halved plan)
  pub nodes : (halved plan).nodes ≤ plan_nodes plan
  pub bound : tree_bound (halving.tree_of (halved plan)) < plan_bound plan

-- So it is of each boosting plan that tolerates a fault.
abbrev pub BoostingIsOutdone : Type 0
BoostingIsOutdone = (plan : Plan) → boosting.IsAccepted plan → 0 < plan_faults plan → IsOutdone plan
