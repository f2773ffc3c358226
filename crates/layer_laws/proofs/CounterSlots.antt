-- The slots of a settling counter from its bound on.
use Rattle.std.proofs.Common.{◌≡◌, ℕ, ◌+◌, ◌%◌, List, subst, arith}
use Rattle.sync_types.specs.States.{State}
use Rattle.construction.specs.Steps.{state_of}
use Rattle.counter_core.specs.Meanings.{Meaning}
use Rattle.counter_core.specs.Overlays.{Layer}
use Rattle.construction.specs.Machines.{CountsFrom}
use Rattle.layer_laws.specs.Counters.{Bears, IsSettling}
use Rattle.layer_laws.specs.Scenes.{Scene}
use Rattle.layer_laws.specs.CounterLayers.{LayerRun, scene, without_layer}
use Rattle.layer_laws.specs.CounterLaws.{RunsWithoutLayerOver, SlotsAgreeOver}
use Rattle.layer_laws.proofs.Settling.{few_of}
use Rattle.layer_laws.proofs.CounterCuts.{cut_run}
use Rattle.layer_laws.proofs.CounterSteps.{shows_rest, common_rest}
use Rattle.layer_laws.proofs.SlotLaws.{slot_agrees}

pub runs_without_layer_over : {Kept : Type 0} (layer : Layer Kept) (counter : Meaning)
    (is_state : (v : ℕ) → State → Type 0) → RunsWithoutLayerOver layer counter is_state
runs_without_layer_over layer counter is_state front faulty first run is =
    cut_run counter is_state layer faulty first run is front

-- the outputs of a run with a layer count from the bound on
pub counts_of : {Kept : Type 0} (counter : Meaning) (is_state : (v : ℕ) → State → Type 0)
    (layer : Layer Kept) → IsSettling counter is_state
    → (faulty : List ℕ) → Bears counter faulty → (first : ℕ) (run : List (Scene Kept))
    → LayerRun counter is_state layer faulty first run
    → CountsFrom counter faulty (without_layer counter run) counter.bound
counts_of counter is_state layer settling faulty borne first run is =
    settling.settles faulty (without_layer counter run) borne
    (cut_run counter is_state layer faulty first run is settling.front)

pub slots_agree_over : {Kept : Type 0} (layer : Layer Kept) (counter : Meaning)
    (is_state : (v : ℕ) → State → Type 0) → SlotsAgreeOver layer counter is_state
slots_agree_over layer counter is_state settling same period from place has whole faulty borne first
    run is t lo hi begins =
    let front = settling.front in
    let quorum = settling.quorum in
    let few = few_of counter faulty borne in
    let counts = counts_of counter is_state layer settling faulty borne first run is in
    let zero = common_rest counter is_state layer faulty first run is front counts period t 0
    (omega (arith, quorum, few)) lo (omega arith) begins in
    let room = has.room in
    slot_agrees counter is_state front layer same period from place
    has faulty quorum few first run is (t + from)
    (omega arith)
    (λ x v xlt vlt ok.
    let e : t + (from + x) ≡ t + from + x = omega arith in
    subst (λ y. counter.shows v (state_of (scene run y).states v) % period ≡ from + x) e
    (shows_rest counter is_state layer faulty first run is front counts period t (from + x) v
    whole lo zero (omega (arith, xlt, room)) (omega (arith, xlt, room, hi)) vlt ok))
