-- The front of nodes and bound of the plans of both constructions.
use Rattle.std.specs.Prelude.{◌≡◌, ℕ, ◌<◌, ◌≤◌, List, [], ◌∷◌, Option, Some, None}
use Rattle.std.specs.List.{All, Any, AllPairs}
use Rattle.construction.specs.Plans.{plan_nodes, plan_faults, plan_modulus, plan_bound}
use Rattle.plan_numbers.specs.Premises as boosting
use Rattle.halving_plan.specs.Trees.{tree_bound}
use Rattle.halving_plan.specs.Plans as halving
use Rattle.choose.specs.declared.any_plans.AnyPlan.{AnyPlan}
use Rattle.choose.specs.declared.any_plans.AnyPlan.TheVariants.{Boosting, Halving}

-- the numbers of a plan
abbrev pub nodes_of : AnyPlan → ℕ
nodes_of (Boosting plan) = plan_nodes plan
nodes_of (Halving plan) = plan.nodes

abbrev pub faults_of : AnyPlan → ℕ
faults_of (Boosting plan) = plan_faults plan
faults_of (Halving plan) = plan.faults

abbrev pub modulus_of : AnyPlan → ℕ
modulus_of (Boosting plan) = plan_modulus plan
modulus_of (Halving plan) = plan.modulus

abbrev pub bound_of : AnyPlan → ℕ
bound_of (Boosting plan) = plan_bound plan
bound_of (Halving plan) = tree_bound (halving.tree_of plan)

abbrev pub IsAccepted : AnyPlan → Type 0
IsAccepted (Boosting plan) = boosting.IsAccepted plan
IsAccepted (Halving plan) = halving.IsAccepted plan

-- an accepted plan with at most n nodes that tolerates f faults or more
pub record Tolerates (n f : ℕ) (plan : AnyPlan) : Type 0 where
  pub accepted : IsAccepted plan
  pub nodes : nodes_of plan ≤ n
  pub faults : f ≤ faults_of plan

-- A plan of the boosting construction, of version 2, if no fault is to be tolerated, and else a
-- halving plan.
abbrev pub IsOfForm : (f : ℕ) → AnyPlan → Type 0
IsOfForm f (Boosting plan) = (plan.version ≡ 2) × (f ≡ 0)
IsOfForm f (Halving plan) = 1 ≤ f

-- such a plan that counts by c
pub record Suits (f c most : ℕ) (plan : AnyPlan) : Type 0 where
  pub tolerates : Tolerates most f plan
  pub modulus : modulus_of plan ≡ c
  pub form : IsOfForm f plan

-- a plan, and another with more nodes and a lesser bound
abbrev pub IsTraded : AnyPlan → AnyPlan → Type 0
IsTraded plan next = (nodes_of plan < nodes_of next) × (bound_of next < bound_of plan)

-- this one has no more nodes than the other, and no greater bound
abbrev pub IsNoWorse : (other : AnyPlan) → AnyPlan → Type 0
IsNoWorse other plan = (nodes_of plan ≤ nodes_of other) × (bound_of plan ≤ bound_of other)

-- Plans that suit, each with fewer nodes and a greater bound than any later one. No accepted plan
-- of either construction is better: one that tolerates f faults within so many nodes, whatever it
-- counts by, has at least the nodes and the bound of one of these. So there are none exactly if no
-- such plan is accepted.
pub record IsFrontOf (f c most : ℕ) (plans : List AnyPlan) : Type 0 where
  pub suit : All (Suits f c most) plans
  pub traded : AllPairs IsTraded plans
  pub best : (other : AnyPlan) → Tolerates most f other → Any (IsNoWorse other) plans

-- at most one plan, as a list
abbrev pub listed : Option AnyPlan → List AnyPlan
listed None = []
listed (Some plan) = plan ∷ []

-- it is a front: there is none of two
abbrev pub IsFrontOfBoth : (f c most : ℕ) → Option AnyPlan → Type 0
IsFrontOfBoth f c most plan = IsFrontOf f c most (listed plan)
