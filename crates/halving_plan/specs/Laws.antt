-- What a plan promises: it is the machine of its tree, with its numbers, and that settles.
use Rattle.std.specs.Prelude.{◌≡◌, ℕ, ◌+◌, ◌*◌, ◌≤◌}
use Rattle.halving_plan.specs.Trees.{tree_nodes, tree_faults, tree_height, tree_bound, tree_for}
use Rattle.machines.specs.Machines.{Machine, Settles}
use Rattle.machines.specs.Laws.{IsSound}
use Rattle.halving_plan.specs.Runs.{machine_of}
use Rattle.halving_plan.specs.Plans.{HalvingNumbers, tree_of, IsAccepted}

-- the machine that a plan is
abbrev pub machine_in : HalvingNumbers → Machine
machine_in plan = machine_of (tree_of plan) plan.modulus

-- The machine has the plan's numbers, and counts from its bound on: that is at most 16 rounds for
-- each fault, and at most ten for each fault and each level.
pub record PlanSettles (plan : HalvingNumbers) : Type 0 where
  pub nodes : tree_nodes (tree_of plan) ≡ plan.nodes
  pub faults : tree_faults (tree_of plan) ≡ plan.faults
  pub bound : tree_bound (tree_of plan) ≤ 16 * plan.faults
  pub each : tree_bound (tree_of plan) ≤ 10 * (plan.faults + tree_height (tree_of plan))
  pub settles : Settles (machine_in plan)

-- Every accepted plan settles.
abbrev pub EveryPlanSettles : Type 0
EveryPlanSettles = (plan : HalvingNumbers) → IsAccepted plan → PlanSettles plan

-- The machine of every accepted plan is sound: it settles, it is locked at its bound and stays so,
-- and a step gives a state of its node, whatever was heard.
abbrev pub AcceptedAreSound : Type 0
AcceptedAreSound = (plan : HalvingNumbers) → IsAccepted plan → IsSound (machine_in plan)

-- The bound depends on the faults alone, and does not fall when they grow.
abbrev pub BoundsRise : Type 0
BoundsRise = (f g spares more : ℕ) → f ≤ g
    → tree_bound (tree_for f spares) ≤ tree_bound (tree_for g more)
