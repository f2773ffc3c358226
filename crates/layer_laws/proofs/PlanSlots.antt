-- Runs of an accepted plan with a layer count from the bound on.
use Rattle.std.proofs.Common.{ℕ, ◌*◌, ◌<◌, ◌≤◌, List}
use Rattle.counting.specs.Places.{places}
use Rattle.construction.specs.Plans.{Plan, plan_nodes, plan_faults}
use Rattle.construction.specs.Runs.{is_in, IsState, IsToleratedBy, Counts}
use Rattle.plan_numbers.specs.Premises.{IsAccepted}
use Rattle.plan_laws.specs.PlanMeaning.{plan_meaning}
use Rattle.counter_core.specs.Overlays.{Layer}
use Rattle.layer_laws.specs.Scenes.{Scene}
use Rattle.layer_laws.specs.LayerRuns.{LayerRun, without_layer}
use Rattle.layer_laws.proofs.Settling as counters
use Rattle.layer_laws.proofs.CounterSlots as slots
use Rattle.layer_laws.proofs.PlanCounters.{plans_settle}

pub quorum_of : (plan : Plan) → IsAccepted plan → 3 * plan_faults plan < plan_nodes plan
quorum_of plan accepted = (plans_settle plan accepted).quorum

pub few_of : (plan : Plan) (faulty : List ℕ) → IsToleratedBy plan faulty
    → places (is_in faulty) (plan_nodes plan) ≤ plan_faults plan
few_of plan = counters.few_of (plan_meaning plan)

pub counts_of : {Kept : Type 0} (plan : Plan) (layer : Layer Kept) → IsAccepted plan
    → (faulty : List ℕ) → IsToleratedBy plan faulty → (first : ℕ) (run : List (Scene Kept))
    → LayerRun plan layer faulty first run
    → Counts plan faulty (without_layer plan run)
counts_of plan layer accepted =
    slots.counts_of (plan_meaning plan) (IsState plan) layer (plans_settle plan accepted)
