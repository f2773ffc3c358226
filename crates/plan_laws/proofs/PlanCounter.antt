-- The laws of the counter of an accepted plan, beside that it settles.
use Rattle.std.proofs.Common.{ℕ, ◌*◌, ◌<◌, ◌≤◌, List, [], ◌∷◌, length, Option, Some, None}
use Rattle.std.proofs.Common.{unwrap_or, IfSome, arith}
use Rattle.std.proofs.Math.Nat.{mul-le-mul_right}
use Rattle.sync_types.specs.States.{State, zero_state, register_at}
use Rattle.construction.specs.Plans.{Level, Plan, nodes_of, plan_depth, plan_low, modulus_of}
use Rattle.construction.specs.Shown.{shown}
use Rattle.construction.specs.Steps.{step_of}
use Rattle.construction.proofs.Ranges.{ArePositive, length-step_in, low_most, zero_at}
use Rattle.construction.proofs.Ranges.{step_is_state}
use Rattle.plan_numbers.specs.Numbers.{below_of}
use Rattle.plan_numbers.specs.Premises.{LevelsAccepted, IsAccepted}
use Rattle.plan_numbers.proofs.Accepted.{accepted_sized, meets}
use Rattle.counter_core.specs.Laws.{Sizes, LowsAreWithin, StaysInRange, IgnoresFurther}
use Rattle.plan_laws.specs.PlanMeaning.{plan_meaning, InRange, IsInRange}
use Rattle.plan_laws.proofs.Ranges.{range_of_cut, range_from_cut, shown_of_cut, range_of_state}
use Rattle.plan_laws.proofs.Ranges.{step_of-cut}

-- the moduli of accepted levels are at least one
pub positive : (base : ℕ) (levels : List Level) → LevelsAccepted base levels
    → (0 < base) × ArePositive levels
positive base [] accepted = let sized =
    accepted_sized base [] accepted in (omega (arith, sized.least_modulus), tt)
positive base (level ∷ below) (accepted, none) =
    let lower = positive base below accepted in
    let met = meets (below_of base below) level none in
    (lower.0, (omega (arith, met.modulus), lower.1))

-- accepted levels are fewer than their nodes
shallow : (base : ℕ) (levels : List Level) → LevelsAccepted base levels
    → length levels < nodes_of levels
shallow base [] accepted = omega arith
shallow base (level ∷ below) (accepted, none) =
    let met = meets (below_of base below) level none in
    let three : 3 * nodes_of below ≤ level.blocks * nodes_of below =
    mul-le-mul_right (nodes_of below) met.blocks in
    omega (arith, shallow base below accepted, three)

some_below : (o : Option ℕ) (c : ℕ) → 0 < c → IfSome o (λ a. a < c) → unwrap_or o 0 < c
some_below None c some range = some
some_below (Some a) c some range = range

-- what a state in range shows is below the modulus
shown_below : (base : ℕ) (levels : List Level) → ArePositive levels → (s : State) → s.x < base
    → InRange levels s → shown (length levels) s < modulus_of base levels
shown_below base [] some s x range = x
shown_below base (level ∷ below) some s x range =
    some_below (register_at (length below) s).a level.modulus some.0 range.1

-- zero values are in range
zero_in_range : (levels : List Level) → ArePositive levels → (d : ℕ) → InRange levels (zero_state d)
zero_in_range [] some d = tt
zero_in_range (level ∷ below) some d =
    (zero_in_range below some.1 d, rw (zero_at d (length below)) some.0)

module _ (plan : Plan) (accepted : IsAccepted plan) where
  pub plan_sizes : Sizes (plan_meaning plan) (IsInRange plan)
  plan_sizes = let sized = accepted_sized plan.base plan.levels accepted.levels in
      let some = positive plan.base plan.levels accepted.levels in
      record {
        some = sized.some;
        most = sized.most;
        few = sized.quorum;
        two = sized.least_modulus;
        modulus = sized.most_modulus;
        bound = sized.bound;
        shallow = shallow plan.base plan.levels accepted.levels;
        shown = λ v s lt range. shown_below plan.base plan.levels some.1 s range.x range.values;
        deep = λ v heard lt size. length-step_in plan.base plan.levels v heard;
      }

  pub plan_lows : LowsAreWithin (plan_meaning plan) (plan_low plan)
  plan_lows v lt = low_most plan.levels v

  pub plan_stays : StaysInRange (plan_meaning plan) (IsInRange plan)
  plan_stays v heard lt size range =
      let some = positive plan.base plan.levels accepted.levels in
      range_of_state plan some.0 some.1 v (step_of plan v heard)
      (step_is_state plan some.0 some.1 v heard)

  pub plan_ignores : IgnoresFurther (plan_meaning plan) (IsInRange plan)
  plan_ignores = record {
    next = λ v heard lt size. step_of-cut plan v heard;
    shows = λ v s lt. shown_of_cut (plan_depth plan) (plan_depth plan) (omega arith) s;
    into_cut =
        λ s range.
        record {
          x = range.x;
          values = range_of_cut plan.levels (plan_depth plan) (omega arith) s range.values;
        };
    from_cut =
        λ s range.
        record {
          x = range.x;
          values = range_from_cut plan.levels (plan_depth plan) (omega arith) s range.values;
        };
  }

  pub plan_zero : IsInRange plan (zero_state (plan_depth plan))
  plan_zero = let some = positive plan.base plan.levels accepted.levels in
      record { x = some.0; values = zero_in_range plan.levels some.1 (plan_depth plan) }
