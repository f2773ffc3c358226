-- The halving plan of fewest nodes with the most faults within the limits is a plan of most faults.
use Rattle.std.proofs.Common.{◌≡◌, ℕ, zero, suc, ◌+◌, ◌-◌, ◌*◌, ◌<◌, ◌≤◌, ◌^◌, [], refl, arith}
use Rattle.std.specs.Int.{div_ceil}
use Rattle.halving_plan.specs.Trees.{tree_for, tree_bound}
use Rattle.halving_plan.specs.Plans.{tree_of}
use Rattle.halving_plan.proofs.Trees.{bounds_rise}
use Rattle.choose.specs.declared.any_plans.AnyPlan.{AnyPlan}
use Rattle.choose.specs.declared.any_plans.AnyPlan.TheVariants.{Boosting, Halving}
use Rattle.choose.specs.FrontsOfBoth.{faults_of, bound_of}
use Rattle.choose.specs.MostFaults.{IsWithin, IsMost, AreMost, halving_bound}
use Rattle.choose.specs.Compared.{fewest}
use Rattle.choose.proofs.Both.{quorum_of, no_slower, lone_front, fewest_front}
use Rattle.choose.proofs.Lower.{plan_of}

-- spare nodes cost no time
pub bound_same : (f spares : ℕ) → tree_bound (tree_for f spares) ≡ halving_bound f
bound_same f spares =
    let up = bounds_rise f f spares 0 (omega arith) in
    let down = bounds_rise f f 0 spares (omega arith) in
    omega (arith, up, down)

module _ (n t f : ℕ) (few : n ≤ 256) (most : AreMost n t (div_ceil n 3) f) where
  none_by : (g : ℕ) (other : AnyPlan) → g ≡ faults_of other → IsWithin n t other → g ≤ f
  none_by zero other same within = omega arith
  none_by (suc g) other same within =
      let quorum = quorum_of other within.accepted in
      let room : 3 * suc g < n = omega (arith, quorum, same, within.nodes) in
      let slow : tree_bound (tree_of (fewest (suc g) 2)) ≤ bound_of other =
      no_slower (suc g) 2 n (omega arith) (omega (arith, room, few)) (omega arith)
      (omega arith) room other (record {
        accepted = within.accepted;
        nodes = within.nodes;
        faults = omega (arith, same);
      }) in
      let bound = bound_same (suc g) (3 * suc g + 1 - (3 * suc g + 1)) in
      most.most (suc g) (omega (arith, room)) (omega (arith, slow, bound, within.bound))

  -- no plan within the limits tolerates more
  none_more : (other : AnyPlan) → IsWithin n t other → faults_of other ≤ f
  none_more other within = none_by (faults_of other) other refl within

  pub halving_most : (c : ℕ) → 1 ≤ f → 2 ≤ c → c ≤ 2 ^ 40 → IsMost n t c (Halving (fewest f c))
  halving_most c some least_c most_c = record {
    front = fewest_front f c n some (omega (arith, most.quorum, few)) least_c most_c most.quorum;
    bound = omega (arith, bound_same f (3 * f + 1 - (3 * f + 1)), most.bound);
    most = none_more;
  }

-- if no fault can be tolerated, one node is enough
pub lone_most : (n t c : ℕ) → 1 ≤ n → n ≤ 256 → 2 ≤ c → c ≤ 2 ^ 40 → AreMost n t (div_ceil n 3) 0
    → IsMost n t c (Boosting (plan_of 2 c []))
lone_most n t c some few least_c most_c most = record {
  front = lone_front c n some least_c most_c;
  bound = omega arith;
  most = none_more n t 0 few most;
}
