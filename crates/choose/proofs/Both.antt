-- No plan is better than the halving plan of fewest nodes, if a fault is to be tolerated.
use Rattle.std.proofs.Common.{ℕ, ◌+◌, ◌-◌, ◌*◌, ◌<◌, ◌≤◌, ◌^◌, List, [], ◌∷◌, refl}
use Rattle.std.proofs.Common.{arith}
use Rattle.std.specs.Prelude.{Some}
use Rattle.std.specs.Int.{div_ceil}
use Rattle.std.proofs.lemmas.List.Elements.{All-nil, All-cons}
use Rattle.std.proofs.Math.Nat.{pow-le-pow_left, pow-le-pow_right, mul-le-mul}
use Rattle.construction.specs.Plans.{Level, Plan, bound_of, plan_nodes, plan_faults, plan_modulus}
use Rattle.plan_numbers.specs.Numbers.{below_of}
use Rattle.plan_numbers.proofs.Accepted.{meets, accepted_sized}
use Rattle.plan_finder.specs.Steps.{cost_of}
use Rattle.halving_plan.specs.Trees.{tree_bound}
use Rattle.halving_plan.proofs.Numbers.{bound_of_tree}
use Rattle.halving_plan.specs.Plans.{tree_of}
use Rattle.halving_plan.specs.Plans as halving
use Rattle.halving_plan.proofs.Trees.{bounds_rise}
use Rattle.choose.specs.declared.any_plans.AnyPlan.{AnyPlan}
use Rattle.choose.specs.declared.any_plans.AnyPlan.TheVariants.{Boosting, Halving}
use Rattle.choose.specs.Fronts.{Bears}
use Rattle.choose.specs.Compared.{fewest, BoostingIsOutdone}
use Rattle.choose.specs.FrontsOfBoth as both
use Rattle.choose.specs.FrontsOfBoth.{Tolerates, Suits, IsNoWorse, IsFrontOfBoth}
use Rattle.choose.proofs.Lower.{plan_of, bound_top}
use Rattle.choose.proofs.Least.{lone_least}

-- ---- plans of the boosting construction

-- the least span of a level that tolerates f faults is more than 48 rounds for each
power_some : (b k : ℕ) → 4 ≤ b → 2 ≤ k → 16 ≤ b ^ k
power_some b k large some =
    let more : 4 ^ 2 ≤ 4 ^ k = pow-le-pow_right (omega arith) some in
    let all : 4 ^ k ≤ b ^ k = pow-le-pow_left large k in
    omega (arith, more, all)

cost_some : (k f : ℕ) → 3 ≤ k → 48 * f < cost_of k f
cost_some k f some =
    let power : 16 ≤ (2 * div_ceil k 2) ^ k =
    power_some (2 * div_ceil k 2) k (omega (arith, some)) (omega (arith, some)) in
    let all : 3 * (f + 2) * 16 ≤ 3 * (f + 2) * (2 * div_ceil k 2) ^ k =
    mul-le-mul (omega arith) power in
    omega (arith, all)

slow_by : (n f : ℕ) → 1 ≤ f → (version base : ℕ) (levels : List Level)
    → Bears n f (plan_of version base levels) → 48 * f < bound_of levels
slow_by n f some version base [] bears = absurd (omega (arith, some, bears.faults))
slow_by n f some version base (level ∷ below) bears =
    let met = meets (below_of base below) level (bears.accepted.levels.1) in
    let blocks = met.blocks in
    let top = bound_top n f level.blocks version base level below blocks bears refl in
    omega (arith, top, cost_some level.blocks f blocks)

pub boosting_bears : (n f : ℕ) (plan : Plan) → Tolerates n f (Boosting plan) → Bears n f plan
boosting_bears n f plan tolerates = record {
  accepted = tolerates.accepted;
  nodes = tolerates.nodes;
  faults = tolerates.faults;
}

-- ---- plans of either

-- a plan has more than three nodes for each fault
pub quorum_of : (plan : AnyPlan) → both.IsAccepted plan
    → 3 * both.faults_of plan < both.nodes_of plan
quorum_of (Boosting plan) accepted = (accepted_sized plan.base plan.levels accepted.levels).quorum
quorum_of (Halving plan) accepted = accepted.quorum

pub more_nodes : (n f : ℕ) (plan : AnyPlan) → Tolerates n f plan → 3 * f < both.nodes_of plan
more_nodes n f plan tolerates =
    let quorum = quorum_of plan tolerates.accepted in
    let faults = tolerates.faults in
    omega (arith, quorum, faults)

-- one plan is a front, if none is better
one_front : (f c most : ℕ) (plan : AnyPlan) → Suits f c most plan
    → ((other : AnyPlan) → Tolerates most f other → IsNoWorse other plan)
    → IsFrontOfBoth f c most (Some plan)
one_front f c most plan suits best = record {
  suit = All-cons (Suits f c most) plan [] suits (All-nil (Suits f c most));
  traded = λ i j d lt within. absurd (omega (arith, lt, within));
  best = λ other tolerates. (0, plan, omega arith, refl, best other tolerates);
}

-- ---- no fault

pub lone_front : (c most : ℕ) → 0 < most → 2 ≤ c → c ≤ 2 ^ 40
    → IsFrontOfBoth 0 c most (Some (Boosting (plan_of 2 c [])))
lone_front c most some least_c most_c =
    let plan : AnyPlan = Boosting (plan_of 2 c []) in
    let least = lone_least most c some least_c most_c in
    one_front 0 c most plan (record {
      tolerates = record {
        accepted = least.member.accepted;
        nodes = least.member.nodes;
        faults = least.member.faults;
      };
      modulus = refl;
      form = (refl, refl);
    }) (λ other tolerates. (omega (arith, more_nodes most 0 other tolerates), omega arith))

-- ---- some faults

pub fewest_accepted : (f c : ℕ) → 1 ≤ f → f ≤ 85 → 2 ≤ c → c ≤ 2 ^ 40
    → halving.IsAccepted (fewest f c)
fewest_accepted f c some few least_c most_c = record {
  most_nodes = omega (arith, few);
  least_modulus = least_c;
  most_modulus = most_c;
  quorum = omega arith;
  single = λ none. absurd (omega (arith, some, none));
}

module _ (f c most : ℕ) (some : 1 ≤ f) (few : f ≤ 85) (least_c : 2 ≤ c) (most_c : c ≤ 2 ^ 40)
    (room : 3 * f < most) where
  pub no_slower : (other : AnyPlan) → Tolerates most f other
      → tree_bound (tree_of (fewest f c)) ≤ both.bound_of other
  no_slower (Boosting plan) tolerates =
      let fast = bound_of_tree f (3 * f + 1 - (3 * f + 1)) in
      let slow = slow_by most f some plan.version plan.base plan.levels
      (boosting_bears most f plan tolerates) in
      omega (arith, fast, slow)
  no_slower (Halving plan) tolerates =
      bounds_rise f plan.faults (3 * f + 1 - (3 * f + 1)) (plan.nodes - (3 * plan.faults + 1))
      tolerates.faults

  pub fewest_front : IsFrontOfBoth f c most (Some (Halving (fewest f c)))
  fewest_front = one_front f c most (Halving (fewest f c)) (record {
    tolerates = record {
      accepted = fewest_accepted f c some few least_c most_c;
      nodes = omega (arith, room);
      faults = omega arith;
    };
    modulus = refl;
    form = some;
  }) (λ other tolerates. (
    omega (arith, more_nodes most f other tolerates),
    no_slower other tolerates,
  ))

-- ---- a boosting plan

pub boosting_is_outdone : BoostingIsOutdone
boosting_is_outdone plan accepted some =
    let f = plan_faults plan in
    let sized = accepted_sized plan.base plan.levels accepted.levels in
    let quorum = sized.quorum in
    let few : f ≤ 85 = omega (arith, quorum, sized.most) in
    let fast = bound_of_tree f (3 * f + 1 - (3 * f + 1)) in
    let slow = slow_by (plan_nodes plan) f some plan.version plan.base plan.levels
    (record { accepted = accepted; nodes = omega arith; faults = omega arith }) in
    record {
      accepted = fewest_accepted f (plan_modulus plan) some few sized.least_modulus
          sized.most_modulus;
      nodes = omega (arith, quorum);
      bound = omega (arith, fast, slow);
    }
