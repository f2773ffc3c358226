-- Which nodes of a plan one may miss in a round: it may hear any N - F correct ones, itself among
-- them.
use Rattle.std.specs.Prelude.{ℕ, List}
use Rattle.construction.specs.Plans.{Plan}
use Rattle.construction.specs.Runs.{IsToleratedBy}
use Rattle.plan_machine.specs.PlanMachines.{machine_of_plan}
use Rattle.node_stepper.specs.Missed as any
use Rattle.plan_machine.specs.NodeRuns.{AreMissed}

-- these are correct nodes that node v hears, N - F of them at least, itself among them
abbrev pub HearsEnough : Plan → (faulty heard : List ℕ) → (v : ℕ) → Type 0
HearsEnough plan = any.HearsEnough (machine_of_plan plan)

-- all other nodes
abbrev pub others_of : Plan → (heard : List ℕ) → List ℕ
others_of plan = any.others_of (machine_of_plan plan)

-- Whichever these are, it may miss all others.
abbrev pub OthersAreMissed : Type 0
OthersAreMissed = (plan : Plan) (faulty heard : List ℕ) (v : ℕ) → IsToleratedBy plan faulty
    → HearsEnough plan faulty heard v → AreMissed plan faulty v (others_of plan heard)
