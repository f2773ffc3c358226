-- The laws of runs with a layer above any counter, by which states its nodes have.
use Rattle.std.specs.Prelude.{◌≡◌, ℕ, ◌+◌, ◌%◌, ◌<◌, ◌≤◌, List, length}
use Rattle.sync_types.specs.States.{State}
use Rattle.counter_core.specs.Meanings.{Meaning}
use Rattle.counter_core.specs.Overlays.{Layer, SameNumbers, LayerFits, KeepsRange}
use Rattle.construction.specs.Machines.{Run}
use Rattle.layer_laws.specs.Counters.{Bears, HasFront, IsSettling}
use Rattle.layer_laws.specs.Scenes.{Scene}
use Rattle.layer_laws.specs.CounterLayers.{IsLayerConfiguration, LayerRun, scene, without_layer}
use Rattle.layer_laws.specs.CounterPlayed.{Telling, TellsInRange, IsKeptFor, era_from}
use Rattle.layer_laws.specs.CounterSlots.{slot_length, HasSlots, AllAre, SlotAgrees}

-- A run with a layer is a run of the counter, once the layer's registers are cut off and what is
-- kept is forgotten.
abbrev pub RunsWithoutLayerOver : {Kept : Type 0} → Layer Kept → (counter : Meaning)
    (is_state : (v : ℕ) → State → Type 0) → Type 0
RunsWithoutLayerOver layer counter is_state = HasFront counter
    → (faulty : List ℕ) (first : ℕ) (run : List (Scene _))
    → LayerRun counter is_state layer faulty first run
    → Run counter is_state faulty (without_layer counter run)

-- Each slot of a register that has slots ends in agreement, if it begins at the counter's bound or
-- later and ends within the run.
abbrev pub SlotsAgreeOver : {Kept : Type 0} → Layer Kept → (counter : Meaning)
    (is_state : (v : ℕ) → State → Type 0) → Type 0
SlotsAgreeOver layer counter is_state = IsSettling counter is_state → SameNumbers layer counter
    → (period from place : ℕ) → HasSlots layer counter.faults period from place
    → counter.modulus % period ≡ 0
    → (faulty : List ℕ) → Bears counter faulty → (first : ℕ) (run : List (Scene _))
    → LayerRun counter is_state layer faulty first run
    → (t : ℕ) → counter.bound ≤ t → t + (from + slot_length counter.faults) < length run
    → AllAre counter faulty (scene run t).states period 0
    → SlotAgrees counter layer place faulty first run (t + from)

-- An era that begins with states in range is a run with the layer, whose first round is that of
-- the era.
abbrev pub ErasAreRunsOver : {Kept : Type 0} → Layer Kept → (counter : Meaning)
    (is_state : (v : ℕ) → State → Type 0) → Type 0
ErasAreRunsOver layer counter is_state = IsSettling counter is_state
    → LayerFits layer counter → KeepsRange layer
    → (faulty : List ℕ) (lie : Telling) → TellsInRange counter is_state layer lie
    → (first : ℕ) (start : Scene _) → IsLayerConfiguration counter is_state layer start.states
    → IsKeptFor counter.nodes start.kept
    → (rounds : ℕ) → LayerRun counter is_state layer faulty first
    (era_from counter layer faulty lie first start rounds)
