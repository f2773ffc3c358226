-- The counter of an accepted plan is settling, and the laws over plans are those over counters.
use Rattle.std.proofs.Common.{arith}
use Rattle.construction.specs.Plans.{Plan, plan_depth}
use Rattle.construction.specs.Runs.{IsState}
use Rattle.construction.proofs.Ranges.{length-step_in, step_is_state}
use Rattle.plan_numbers.specs.Premises.{IsAccepted}
use Rattle.plan_numbers.proofs.Accepted.{accepted_sized}
use Rattle.plan_laws.specs.PlanMeaning.{plan_meaning}
use Rattle.plan_laws.proofs.PlanCounter.{positive, plan_sizes}
use Rattle.plan_laws.proofs.Ranges.{shown_of_cut, step_of-cut, range_of_state}
use Rattle.plan_laws.proofs.RunLaws.{every_plan_settles}
use Rattle.counter_core.specs.Overlays.{Layer}
use Rattle.layer_laws.specs.Counters.{HasFront}
use Rattle.layer_laws.specs.Numbers.{AreNumbers, numbers_of}
use Rattle.layer_laws.specs.Laws.{PlansSettle, RunsWithoutLayer, SlotsAgree, ErasAreRuns}
use Rattle.layer_laws.proofs.CounterSlots.{runs_without_layer_over, slots_agree_over}
use Rattle.layer_laws.proofs.CounterEras.{eras_are_runs_over}

pub front_of_plan : (plan : Plan) → HasFront (plan_meaning plan)
front_of_plan plan = record {
  deep = λ v heard lt. length-step_in plan.base plan.levels v heard;
  next = λ v heard lt size. step_of-cut plan v heard;
  shows = λ v state lt. shown_of_cut (plan_depth plan) (plan_depth plan) (omega arith) state;
}

pub plan_numbers_are : (plan : Plan) → IsAccepted plan → AreNumbers (numbers_of plan)
plan_numbers_are plan accepted =
    let sized = accepted_sized plan.base plan.levels accepted.levels in
    record {
      quorum = sized.quorum;
      few = sized.most;
      least = sized.least_modulus;
      most = sized.most_modulus;
      shallow = let s = plan_sizes plan accepted in
          let few = s.most in let deep = s.shallow in omega (arith, few, deep);
    }

pub plans_settle : PlansSettle
plans_settle plan accepted =
    let sized = accepted_sized plan.base plan.levels accepted.levels in
    let moduli = positive plan.base plan.levels accepted.levels in
    record {
      quorum = sized.quorum;
      least = sized.least_modulus;
      deep = λ v state lt is. is.depth;
      shown = λ v state lt is.
          (plan_sizes plan accepted).shown v state lt
          (range_of_state plan moduli.0 moduli.1 v state is);
      next = λ v heard lt. step_is_state plan moduli.0 moduli.1 v heard;
      front = front_of_plan plan;
      settles = every_plan_settles plan accepted;
    }

pub runs_without_layer : {Kept : Type 0} (layer : Layer Kept) → RunsWithoutLayer layer
runs_without_layer layer plan =
    runs_without_layer_over layer (plan_meaning plan) (IsState plan) (front_of_plan plan)

pub slots_agree : {Kept : Type 0} (layer : Layer Kept) → SlotsAgree layer
slots_agree layer plan accepted =
    slots_agree_over layer (plan_meaning plan) (IsState plan) (plans_settle plan accepted)

pub eras_are_runs : {Kept : Type 0} (layer : Layer Kept) → ErasAreRuns layer
eras_are_runs layer plan accepted =
    eras_are_runs_over layer (plan_meaning plan) (IsState plan) (plans_settle plan accepted)
