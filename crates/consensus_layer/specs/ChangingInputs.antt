-- Consensus with inputs that change: each node's input may be another one in each round.
use Rattle.std.specs.Prelude.{◌≡◌, ℕ, ◌+◌, ◌-◌, ◌%◌, ◌<◌, List, [], ◌∷◌, length, false, unwrap_or}
use Rattle.sync_types.specs.States.{State}
use Rattle.construction.specs.Plans.{Plan, plan_faults, plan_modulus, plan_bound}
use Rattle.construction.specs.Runs.{is_in, IsToleratedBy}
use Rattle.plan_numbers.specs.Premises.{IsAccepted}
use Rattle.plan_laws.specs.PlanMeaning.{plan_meaning}
use Rattle.counter_core.specs.Meanings.{Meaning}
use Rattle.counter_core.specs.Overlays.{Layer}
use Rattle.layer_laws.specs.Counters.{Bears, IsSettling}
use Rattle.layer_laws.specs.Numbers.{Numbers, numbers_in, numbers_of}
use Rattle.layer_laws.specs.Scenes.{Scene, kept_of}
use Rattle.layer_laws.specs.CounterLayers.{LayerRun, scene}
use Rattle.layer_laws.specs.LayerRuns as plan_runs
use Rattle.layer_laws.specs.Slots as plan_slots
use Rattle.layer_laws.specs.CounterSlots.{slot_length, AllAre}
use Rattle.consensus_layer.specs.Agreeing.{agree_step}

-- what a node keeps: the number of the round, and its decision
pub record Noted : Type 0 where
  pub round : ℕ
  pub decision : ℕ

-- The layer of consensus, in which node v has this input in round t. When a round begins, each node
-- notes its number.
abbrev pub changing_layer_over : Numbers → (values : ℕ) → (input : (v t : ℕ) → ℕ) → Layer Noted
changing_layer_over numbers values input = record {
  nodes = numbers.nodes;
  modulus = numbers.modulus;
  depth = numbers.depth;
  extra = 1;
  values = values;
  first = record { round = 0; decision = 0 };
  begun = λ at noted. record { round = at; decision = noted.decision };
  next = λ v noted output heard.
      let s = agree_step numbers.nodes numbers.faults numbers.depth v (input v noted.round) output
      heard in
      record {
        registers = s.register ∷ [];
        kept = record {
          round = noted.round;
          decision = unwrap_or s.decided noted.decision;
        };
      };
}

-- that over the counter of a plan
abbrev pub changing_layer : Plan → (values : ℕ) → (input : (v t : ℕ) → ℕ) → Layer Noted
changing_layer plan = changing_layer_over (numbers_of plan)

-- The slot that begins in configuration t of a run, whose rounds are numbered from `first` on, ends
-- with one decision of all correct nodes. It is their common input of the round before the slot, if
-- they had one.
pub record DecidesOneOver (counter : Meaning) (values : ℕ) (input : (v t : ℕ) → ℕ)
    (faulty : List ℕ) (first : ℕ) (run : List (Scene Noted)) (t : ℕ) : Type 0 where
  pub value : ℕ
  pub each : (v : ℕ) → v < counter.nodes → is_in faulty v ≡ false
      → (kept_of (changing_layer_over (numbers_in counter) values input)
      (scene run (t + slot_length counter.faults)) v).decision
      ≡ value
  pub valid : (common : ℕ) → ((v : ℕ) → v < counter.nodes → is_in faulty v ≡ false
      → input v (first + (t - 1)) ≡ common) → value ≡ common

-- so over the counter of a plan
abbrev pub DecidesOne : Plan → (values : ℕ) (input : (v t : ℕ) → ℕ) (faulty : List ℕ) (first : ℕ)
    (run : List (Scene Noted)) (t : ℕ) → Type 0
DecidesOne plan = DecidesOneOver (plan_meaning plan)

-- In every run of a settling counter, whose modulus is a multiple of a slot, whatever the inputs
-- are in each round, each slot that begins after the bound and ends within the run does so.
abbrev pub ChangingInputsDecideOver : (counter : Meaning) (is_state : (v : ℕ) → State → Type 0)
    → Type 0
ChangingInputsDecideOver counter is_state = IsSettling counter is_state
    → counter.modulus % slot_length counter.faults ≡ 0
    → (values : ℕ) (input : (v t : ℕ) → ℕ) (faulty : List ℕ) → Bears counter faulty
    → (first : ℕ) (run : List (Scene Noted))
    → LayerRun counter is_state (changing_layer_over (numbers_in counter) values input) faulty first
    run
    → (t : ℕ) → counter.bound < t → t + slot_length counter.faults < length run
    → AllAre counter faulty (scene run t).states (slot_length counter.faults) 0
    → DecidesOneOver counter values input faulty first run t

-- In every run of an accepted plan, whose modulus is a multiple of a slot, whatever the inputs are
-- in each round, each slot that begins after the bound and ends within the run does so.
abbrev pub ChangingInputsDecide : Type 0
ChangingInputsDecide = (plan : Plan) → IsAccepted plan
    → plan_modulus plan % slot_length (plan_faults plan) ≡ 0
    → (values : ℕ) (input : (v t : ℕ) → ℕ) (faulty : List ℕ) → IsToleratedBy plan faulty
    → (first : ℕ) (run : List (Scene Noted))
    → plan_runs.LayerRun plan (changing_layer plan values input) faulty first run
    → (t : ℕ) → plan_bound plan < t → t + slot_length (plan_faults plan) < length run
    → plan_slots.AllAre plan faulty (scene run t).states (slot_length (plan_faults plan)) 0
    → DecidesOne plan values input faulty first run t
