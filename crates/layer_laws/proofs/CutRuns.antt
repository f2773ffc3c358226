-- Registers after a step of a plan with a layer.
use Rattle.std.proofs.Common.{◌≡◌, ℕ, ◌+◌, List, get_or}
use Rattle.sync_types.specs.States.{State, zero_register, register_at}
use Rattle.construction.specs.Plans.{Plan, plan_depth}
use Rattle.construction.specs.Steps.{step_of}
use Rattle.construction.proofs.Ranges.{length-step_in}
use Rattle.plan_laws.specs.PlanMeaning.{plan_meaning}
use Rattle.counter_core.specs.Meanings.{cut}
use Rattle.counter_core.specs.Overlays.{Layer}
use Rattle.layer_laws.specs.Scenes.{layer_step, new_state}
use Rattle.layer_laws.proofs.CounterCuts as counters

-- the front of a new state is the step of the plan
pub new_front : {Kept : Type 0} (plan : Plan) (layer : Layer Kept) (at : ℕ) (kept : Kept) (v : ℕ)
    (heard : List State)
    → cut (plan_depth plan) (new_state (plan_meaning plan) layer at kept v heard)
    ≡ step_of plan v heard
new_front plan layer at kept v heard =
    counters.new_front (plan_meaning plan) layer at kept v heard
    (length-step_in plan.base plan.levels v heard)

-- and a register after it is one of the layer's
pub layer_register : {Kept : Type 0} (plan : Plan) (layer : Layer Kept) (place at : ℕ) (kept : Kept)
    (v : ℕ) (heard : List State)
    → register_at (plan_depth plan + place) (new_state (plan_meaning plan) layer at kept v heard)
    ≡ get_or (layer_step (plan_meaning plan) layer at kept v heard).registers place
    zero_register
layer_register plan layer place at kept v heard =
    counters.layer_register (plan_meaning plan) layer place at kept v heard
    (length-step_in plan.base plan.levels v heard)
