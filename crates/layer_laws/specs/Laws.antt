-- The laws of runs of a plan with a layer.
use Rattle.std.specs.Prelude.{◌≡◌, ℕ, ◌+◌, ◌%◌, ◌<◌, ◌≤◌, List, length}
use Rattle.construction.specs.Plans.{Plan, plan_nodes, plan_faults, plan_modulus, plan_bound}
use Rattle.construction.specs.Runs.{IsState, Run, IsToleratedBy}
use Rattle.plan_numbers.specs.Premises.{IsAccepted}
use Rattle.plan_laws.specs.PlanMeaning.{plan_meaning}
use Rattle.counter_core.specs.Overlays.{Layer, SameNumbers, LayerFits, KeepsRange}
use Rattle.layer_laws.specs.Counters.{IsSettling}
use Rattle.layer_laws.specs.Scenes.{Scene}
use Rattle.layer_laws.specs.LayerRuns.{IsLayerConfiguration, LayerRun, scene, without_layer}
use Rattle.layer_laws.specs.Played.{Telling, TellsInRange, IsKeptFor, era_from}
use Rattle.layer_laws.specs.Slots.{slot_length, HasSlots, AllAre, SlotAgrees}

-- The counter of an accepted plan is one that a layer may stand on.
abbrev pub PlansSettle : Type 0
PlansSettle = (plan : Plan) → IsAccepted plan → IsSettling (plan_meaning plan) (IsState plan)

-- A run with a layer is a run of the plan, once the layer's registers are cut off and what is kept
-- is forgotten.
abbrev pub RunsWithoutLayer : {Kept : Type 0} → Layer Kept → Type 0
RunsWithoutLayer layer = (plan : Plan) (faulty : List ℕ) (first : ℕ) (run : List (Scene _))
    → LayerRun plan layer faulty first run → Run plan faulty (without_layer plan run)

-- Each slot of a register that has slots ends in agreement, if it begins at the plan's bound or
-- later and ends within the run.
abbrev pub SlotsAgree : {Kept : Type 0} → Layer Kept → Type 0
SlotsAgree layer = (plan : Plan) → IsAccepted plan → SameNumbers layer (plan_meaning plan)
    → (period from place : ℕ) → HasSlots layer (plan_faults plan) period from place
    → plan_modulus plan % period ≡ 0
    → (faulty : List ℕ) → IsToleratedBy plan faulty → (first : ℕ) (run : List (Scene _))
    → LayerRun plan layer faulty first run
    → (t : ℕ) → plan_bound plan ≤ t → t + (from + slot_length (plan_faults plan)) < length run
    → AllAre plan faulty (scene run t).states period 0
    → SlotAgrees plan layer place faulty first run (t + from)

-- An era that begins with states in range is a run with the layer, whose first round is that of
-- the era.
abbrev pub ErasAreRuns : {Kept : Type 0} → Layer Kept → Type 0
ErasAreRuns layer = (plan : Plan) → IsAccepted plan → LayerFits layer (plan_meaning plan)
    → KeepsRange layer
    → (faulty : List ℕ) (lie : Telling) → TellsInRange plan layer faulty lie
    → (first : ℕ) (start : Scene _) → IsLayerConfiguration plan layer start.states
    → IsKeptFor (plan_nodes plan) start.kept
    → (rounds : ℕ) → LayerRun plan layer faulty first
    (era_from plan layer faulty lie first start rounds)
