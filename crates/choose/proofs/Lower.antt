-- What stands below the top level of a plan: fewer nodes, which tolerate enough faults, at a lesser
-- bound.
use Rattle.std.proofs.Common.{◌≡◌, ℕ, ◌+◌, ◌*◌, ◌/◌, ◌<◌, ◌≤◌, ◌^◌, List, [], ◌∷◌, sym, ap, subst}
use Rattle.std.proofs.Common.{arith}
use Rattle.std.specs.Int.{div_ceil}
use Rattle.std.proofs.lemmas.Nat.{le-div}
use Rattle.std.proofs.lemmas.List.Elements.{All-tail}
use Rattle.std.proofs.Math.Nat.{mul-le-mul_right, div-lt_iff_lt-mul}
use Rattle.construction.specs.Plans.{Level, Plan, nodes_of, faults_of, bound_of, span_of}
use Rattle.construction.specs.Plans.{plan_bound}
use Rattle.plan_numbers.specs.Numbers.{below_of}
use Rattle.plan_numbers.specs.Premises.{FitsVersion, MeetsPremises}
use Rattle.plan_numbers.proofs.Accepted.{meets, level_sized, accepted_sized}
use Rattle.plan_finder.specs.Steps.{cost_of}
use Rattle.choose.specs.Fronts.{Bears}
use Rattle.choose.specs.Least.{IsTop, HasTop}

-- more faults have no lesser span
pub span_more : (k f g : ℕ) → f ≤ g → cost_of k f ≤ cost_of k g
span_more k f g le =
    let beats : 3 * (f + 2) ≤ 3 * (g + 2) = omega (arith, le) in
    mul-le-mul_right ((2 * div_ceil k 2) ^ k) beats

abbrev pub plan_of : (version base : ℕ) → List Level → Plan
plan_of version base levels = record { version = version; base = base; levels = levels }

module _ (n f k version base : ℕ) (level : Level) (below : List Level) (some : 3 ≤ k)
    (bears : Bears n f (plan_of version base (level ∷ below))) (blocks : level.blocks ≡ k) where
  top_meets : MeetsPremises (below_of base below) level
  top_meets = meets (below_of base below) level (bears.accepted.levels.1)

  few_below : nodes_of below ≤ n / k
  few_below =
      let size : k * nodes_of below ≤ n =
      omega (arith, bears.nodes, ap (λ b. b * nodes_of below) blocks) in
      le-div (nodes_of below) n k (omega (arith, some)) (omega (arith, size))

  enough_below : f / div_ceil k 2 ≤ faults_of below
  enough_below =
      let half : 0 < div_ceil k 2 = omega (arith, some) in
      let share : level.faults < (faults_of below + 1) * div_ceil k 2 =
      subst (λ b. level.faults < (faults_of below + 1) * div_ceil b 2) blocks top_meets.share in
      let fewer : f < (faults_of below + 1) * div_ceil k 2 = omega (arith, share, bears.faults) in
      let less : f / div_ceil k 2 < faults_of below + 1 = (div-lt_iff_lt-mul half).1 fewer in
      omega (arith, less)

  pub bears_below : Bears (n / k) (f / div_ceil k 2) (plan_of version base below)
  bears_below = record {
    accepted = record {
      oldest = bears.accepted.oldest;
      newest = bears.accepted.newest;
      fits = All-tail (FitsVersion version) level below bears.accepted.fits;
      levels = bears.accepted.levels.0;
    };
    nodes = few_below;
    faults = enough_below;
  }

  span_top : cost_of k f ≤ span_of level
  span_top = subst (λ b. cost_of k f ≤ cost_of b level.faults) (sym blocks)
      (span_more k f level.faults bears.faults)

  pub bound_top : bound_of below + cost_of k f ≤ bound_of (level ∷ below)
  bound_top = omega (arith, span_top)

  -- the span is no larger than a modulus may be
  pub span_fits : cost_of k f ≤ 2 ^ 40
  span_fits =
      let sized = accepted_sized base below (bears.accepted.levels.0) in
      let most = (level_sized (below_of base below) level sized top_meets).most_span in
      omega (arith, span_top, most)

abbrev Blocks : (n f k : ℕ) → Plan → Type 0
Blocks n f k plan = HasTop n f (λ blocks. blocks ≡ k) plan

module _ (n f k : ℕ) (some : 3 ≤ k) where
  none_dear_by : (dear : 2 ^ 40 < cost_of k f) (version base : ℕ) (levels : List Level)
      → Bears n f (plan_of version base levels) → ¬ IsTop (λ blocks. blocks ≡ k) levels
  none_dear_by dear version base [] bears top = top
  none_dear_by dear version base (level ∷ below) bears top =
      absurd (omega (arith, dear, span_fits n f k version base level below some bears top))

  -- if the span is larger than any modulus, no plan has such a top level
  pub none_dear : (dear : 2 ^ 40 < cost_of k f) (plan : Plan) → ¬ Blocks n f k plan
  none_dear dear plan has = none_dear_by dear plan.version plan.base plan.levels has.bears has.top

  none_over_by : ((other : Plan) → ¬ Bears (n / k) (f / div_ceil k 2) other)
      → (version base : ℕ) (levels : List Level)
      → Bears n f (plan_of version base levels) → ¬ IsTop (λ blocks. blocks ≡ k) levels
  none_over_by none version base [] bears top = top
  none_over_by none version base (level ∷ below) bears top =
      none (plan_of version base below) (bears_below n f k version base level below some bears top)

  -- if no plan can be a block, no plan has such a top level
  pub none_over : ((other : Plan) → ¬ Bears (n / k) (f / div_ceil k 2) other)
      → (plan : Plan) → ¬ Blocks n f k plan
  none_over none plan has = none_over_by none plan.version plan.base plan.levels has.bears has.top

  bound_over_by : (t : ℕ)
      → ((other : Plan) → Bears (n / k) (f / div_ceil k 2) other → t ≤ plan_bound other)
      → (version base : ℕ) (levels : List Level) → Bears n f (plan_of version base levels)
      → IsTop (λ blocks. blocks ≡ k) levels → t + cost_of k f ≤ bound_of levels
  bound_over_by t least version base [] bears top = absurd top
  bound_over_by t least version base (level ∷ below) bears top =
      let lower : t ≤ bound_of below =
      least (plan_of version base below)
      (bears_below n f k version base level below some bears top) in
      omega (arith, lower, bound_top n f k version base level below some bears top)

  -- what bounds each plan that can be a block, bounds with the span each plan with such a top level
  pub bound_over : (t : ℕ)
      → ((other : Plan) → Bears (n / k) (f / div_ceil k 2) other → t ≤ plan_bound other)
      → (plan : Plan) → Blocks n f k plan → t + cost_of k f ≤ plan_bound plan
  bound_over t least plan has =
      bound_over_by t least plan.version plan.base plan.levels has.bears has.top
