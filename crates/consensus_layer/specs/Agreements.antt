-- Consensus on a counter: in each slot the nodes agree on a decision, which each keeps to the end
-- of the next slot.
use Rattle.std.specs.Prelude.{◌≡◌, ℕ, ◌+◌, ◌%◌, ◌<◌, List, [], ◌∷◌, length, false, unwrap_or}
use Rattle.std.specs.Prelude.{slice_index}
use Rattle.sync_types.specs.States.{State}
use Rattle.construction.specs.Plans.{Plan, plan_faults, plan_modulus}
use Rattle.construction.specs.Runs.{is_in, IsState, IsToleratedBy}
use Rattle.plan_numbers.specs.Premises.{IsAccepted}
use Rattle.plan_laws.specs.PlanMeaning.{plan_meaning}
use Rattle.counter_core.specs.Meanings.{Meaning}
use Rattle.counter_core.specs.Overlays.{Layer}
use Rattle.layer_laws.specs.Counters.{Bears, IsSettling}
use Rattle.layer_laws.specs.Numbers.{Numbers, numbers_in, numbers_of}
use Rattle.layer_laws.specs.Scenes.{Scene}
use Rattle.layer_laws.specs.CounterLayers.{LayerRun, scene}
use Rattle.layer_laws.specs.CounterSlots.{slot_length, AllAre}
use Rattle.consensus_layer.specs.Agreeing.{agree_step}

-- the layer of consensus, in which each node has an input of its own that stays
abbrev pub agree_layer_of : (nodes faults modulus depth values : ℕ) (inputs : List ℕ) → Layer ℕ
agree_layer_of nodes faults modulus depth values inputs = record {
  nodes = nodes;
  modulus = modulus;
  depth = depth;
  extra = 1;
  values = values;
  first = 0;
  begun = λ at decision. decision;
  next = λ v decision output heard.
      let s = agree_step nodes faults depth v (slice_index inputs v) output heard in
      record { registers = s.register ∷ []; kept = unwrap_or s.decided decision };
}

-- that over a counter of these numbers
abbrev pub agree_layer_over : Numbers → (values : ℕ) (inputs : List ℕ) → Layer ℕ
agree_layer_over numbers values inputs =
    agree_layer_of numbers.nodes numbers.faults numbers.modulus numbers.depth values inputs

-- that over the counter of a plan
abbrev pub agree_layer : Plan → (values : ℕ) (inputs : List ℕ) → Layer ℕ
agree_layer plan = agree_layer_over (numbers_of plan)

-- the decision of node v
abbrev pub decision : Scene ℕ → ℕ → ℕ
decision s v = slice_index s.kept v

-- a run with consensus, from any states and decisions
abbrev pub AgreeRunOver : (counter : Meaning) (is_state : (v : ℕ) → State → Type 0) (values : ℕ)
    (inputs : List ℕ) (faulty : List ℕ) (first : ℕ) (run : List (Scene ℕ)) → Type 0
AgreeRunOver counter is_state values inputs =
    LayerRun counter is_state (agree_layer_over (numbers_in counter) values inputs)

-- The decisions of all correct nodes are one, which is their common input if they have one.
pub record OneDecisionOver (counter : Meaning) (inputs : List ℕ) (faulty : List ℕ)
    (s : Scene ℕ) : Type 0 where
  pub value : ℕ
  pub each : (v : ℕ) → v < counter.nodes → is_in faulty v ≡ false → decision s v ≡ value
  pub valid : (common : ℕ)
      → ((v : ℕ) → v < counter.nodes → is_in faulty v ≡ false → slice_index inputs v ≡ common)
      → value ≡ common

-- Each slot that begins after the bound and ends within the run ends with one decision.
abbrev pub DecidesOver : Meaning → (inputs : List ℕ) (faulty : List ℕ) (run : List (Scene ℕ))
    → Type 0
DecidesOver counter inputs faulty run = (t : ℕ) → counter.bound < t
    → t + slot_length counter.faults < length run
    → AllAre counter faulty (scene run t).states (slot_length counter.faults) 0
    → OneDecisionOver counter inputs faulty (scene run (t + slot_length counter.faults))

-- Every run with consensus of a settling counter, whose modulus is a multiple of a slot, decides.
abbrev pub EveryRunDecidesOver : (counter : Meaning) (is_state : (v : ℕ) → State → Type 0) → Type 0
EveryRunDecidesOver counter is_state = IsSettling counter is_state
    → counter.modulus % slot_length counter.faults ≡ 0
    → (values : ℕ) (inputs : List ℕ) (faulty : List ℕ) → Bears counter faulty
    → (first : ℕ) (run : List (Scene ℕ))
    → AgreeRunOver counter is_state values inputs faulty first run
    → DecidesOver counter inputs faulty run

-- those of a plan
module _ (plan : Plan) where
  abbrev pub AgreeRun : (values : ℕ) (inputs : List ℕ) (faulty : List ℕ) (first : ℕ)
      (run : List (Scene ℕ)) → Type 0
  AgreeRun = AgreeRunOver (plan_meaning plan) (IsState plan)

  abbrev pub Decides : (inputs : List ℕ) (faulty : List ℕ) (run : List (Scene ℕ)) → Type 0
  Decides = DecidesOver (plan_meaning plan)

-- Every run with consensus of an accepted plan, whose modulus is a multiple of a slot, decides.
abbrev pub EveryRunDecides : Type 0
EveryRunDecides = (plan : Plan) → IsAccepted plan
    → plan_modulus plan % slot_length (plan_faults plan) ≡ 0
    → (values : ℕ) (inputs : List ℕ) (faulty : List ℕ) → IsToleratedBy plan faulty
    → (first : ℕ) (run : List (Scene ℕ)) → AgreeRun plan values inputs faulty first run
    → Decides plan inputs faulty run
