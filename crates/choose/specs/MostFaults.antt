-- The plan of most faults within so many nodes and rounds, of both constructions.
use Rattle.std.specs.Prelude.{ℕ, ◌*◌, ◌<◌, ◌≤◌, Some}
use Rattle.halving_plan.specs.Trees.{tree_for, tree_bound}
use Rattle.choose.specs.declared.any_plans.AnyPlan.{AnyPlan}
use Rattle.choose.specs.FrontsOfBoth.{nodes_of, faults_of, bound_of, IsAccepted, IsFrontOfBoth}

-- an accepted plan with at most n nodes and a bound of at most t
pub record IsWithin (n t : ℕ) (plan : AnyPlan) : Type 0 where
  pub accepted : IsAccepted plan
  pub nodes : nodes_of plan ≤ n
  pub bound : bound_of plan ≤ t

-- A plan that counts by c, within these limits. No accepted plan of either construction within them
-- tolerates more faults, whatever it counts by; and of those that tolerate as many, with at most n
-- nodes, none has fewer nodes or a lesser bound.
pub record IsMost (n t c : ℕ) (plan : AnyPlan) : Type 0 where
  pub front : IsFrontOfBoth (faults_of plan) c n (Some plan)
  pub bound : bound_of plan ≤ t
  pub most : (other : AnyPlan) → IsWithin n t other → faults_of other ≤ faults_of plan

-- the bound of halving plans that tolerate f faults
abbrev pub halving_bound : (f : ℕ) → ℕ
halving_bound f = tree_bound (tree_for f 0)

-- the most faults of halving plans within these limits, of those that are fewer than top
pub record AreMost (n t top f : ℕ) : Type 0 where
  pub quorum : 3 * f < n
  pub bound : halving_bound f ≤ t
  pub most : (g : ℕ) → g < top → halving_bound g ≤ t → g ≤ f
