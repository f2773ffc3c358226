-- Simultaneous firing: consensus on one bit, whose input is whether a node requests in the round.
use Rattle.std.specs.Prelude.{◌≡◌, ℕ, ◌+◌, ◌-◌, ◌%◌, ◌<◌, List, [], ◌∷◌, length, Bool, false, ◌==◌}
use Rattle.std.specs.Prelude.{◌&&◌, nat_le, nat_eq, Some, if◌then◌else◌, slice_index_or}
use Rattle.std.specs.List.{list_any}
use Rattle.std.specs.Option.{option_eq}
use Rattle.sync_types.specs.States.{State}
use Rattle.construction.specs.Plans.{Plan, plan_faults, plan_modulus, plan_bound}
use Rattle.construction.specs.Runs.{is_in, IsState, IsToleratedBy}
use Rattle.plan_numbers.specs.Premises.{IsAccepted}
use Rattle.plan_laws.specs.PlanMeaning.{plan_meaning}
use Rattle.counter_core.specs.Meanings.{Meaning}
use Rattle.counter_core.specs.Overlays.{Layer}
use Rattle.layer_laws.specs.Counters.{Bears, IsSettling}
use Rattle.layer_laws.specs.Numbers.{Numbers, numbers_in, numbers_of}
use Rattle.layer_laws.specs.Scenes.{Scene}
use Rattle.layer_laws.specs.CounterLayers.{LayerRun, scene}
use Rattle.layer_laws.specs.CounterSlots as counters
use Rattle.layer_laws.specs.Slots.{slot_length, AllAre}
use Rattle.consensus_layer.specs.Agreeing.{agree_step}
use Rattle.firing.specs.declared.requests.Request.{Request}
use Rattle.firing.specs.declared.fires.Fire.{Fire}

-- whether node v requests in round t
abbrev pub requests_in : List Request → (v t : ℕ) → Bool
requests_in requests v t =
    list_any (λ r. r.node == v && nat_le r.first t && nat_le t r.last) requests

abbrev pub bit : Bool → ℕ
bit b = if b then 1 else 0

-- what a node keeps at first
abbrev pub unfired : Fire
unfired = record { round = 0; fired = false }

-- The layer of firing. When a round begins, each node notes its number; in it, a node's input is
-- whether it requests there, and it fires if it decides 1.
abbrev pub fire_layer_of : (nodes faults modulus depth : ℕ) → List Request → Layer Fire
fire_layer_of nodes faults modulus depth requests = record {
  nodes = nodes;
  modulus = modulus;
  depth = depth;
  extra = 1;
  values = 2;
  first = unfired;
  begun = λ at fire. record { round = at; fired = fire.fired };
  next = λ v fire output heard.
      let s =
      agree_step nodes faults depth v (bit (requests_in requests v fire.round)) output heard in
      record {
        registers = s.register ∷ [];
        kept = record {
          round = fire.round;
          fired = option_eq nat_eq s.decided (Some 1);
        };
      };
}

-- that over a counter
abbrev pub fire_layer_over : Numbers → List Request → Layer Fire
fire_layer_over numbers requests =
    fire_layer_of numbers.nodes numbers.faults numbers.modulus numbers.depth requests

-- that over the counter of a plan
abbrev pub fire_layer : Plan → List Request → Layer Fire
fire_layer plan = fire_layer_over (numbers_of plan)

-- a run of a counter with firing, from any states, its rounds numbered from `first` on
abbrev pub FireRunOver : (counter : Meaning) (is_state : (v : ℕ) → State → Type 0) → List Request
    → (faulty : List ℕ) (first : ℕ) (run : List (Scene Fire)) → Type 0
FireRunOver counter is_state requests =
    LayerRun counter is_state (fire_layer_over (numbers_in counter) requests)

-- whether node v fires, by what the nodes keep
abbrev pub fires_of : List Fire → (v : ℕ) → Bool
fires_of kept v = (slice_index_or kept v unfired).fired

abbrev pub fires : Scene Fire → (v : ℕ) → Bool
fires s v = fires_of s.kept v

-- The slot that begins in configuration t of a run ends with all correct nodes firing, or none: as
-- they requested in the round before it, if all or none of them did. Before, none fires.
pub record FiresTogetherOver (counter : Meaning) (requests : List Request) (faulty : List ℕ)
    (first : ℕ) (run : List (Scene Fire)) (t : ℕ) : Type 0 where
  pub fired : Bool
  pub each : (v : ℕ) → v < counter.nodes → is_in faulty v ≡ false
      → fires (scene run (t + slot_length counter.faults)) v ≡ fired
  pub valid : (common : Bool) → ((v : ℕ) → v < counter.nodes → is_in faulty v ≡ false
      → requests_in requests v (first + (t - 1)) ≡ common) → fired ≡ common
  pub quiet : (x v : ℕ) → 0 < x → x < slot_length counter.faults → v < counter.nodes
      → is_in faulty v ≡ false → fires (scene run (t + x)) v ≡ false

-- In every run with firing of a settling counter, whose modulus is a multiple of a slot, all fire
-- together in each slot that begins after the bound and ends within the run.
abbrev pub EveryRunFiresTogetherOver : (counter : Meaning) (is_state : (v : ℕ) → State → Type 0)
    → Type 0
EveryRunFiresTogetherOver counter is_state = IsSettling counter is_state
    → counter.modulus % slot_length counter.faults ≡ 0
    → (requests : List Request) (faulty : List ℕ) → Bears counter faulty
    → (first : ℕ) (run : List (Scene Fire))
    → FireRunOver counter is_state requests faulty first run
    → (t : ℕ) → counter.bound < t → t + slot_length counter.faults < length run
    → counters.AllAre counter faulty (scene run t).states (slot_length counter.faults) 0
    → FiresTogetherOver counter requests faulty first run t

-- ---- over the counter of a plan

abbrev pub FireRun : Plan → List Request → (faulty : List ℕ) (first : ℕ)
    (run : List (Scene Fire)) → Type 0
FireRun plan = FireRunOver (plan_meaning plan) (IsState plan)

abbrev pub FiresTogether : Plan → List Request → (faulty : List ℕ) (first : ℕ)
    (run : List (Scene Fire)) (t : ℕ) → Type 0
FiresTogether plan = FiresTogetherOver (plan_meaning plan)

-- In every run with firing of an accepted plan, whose modulus is a multiple of a slot, all fire
-- together in each slot that begins after the bound and ends within the run.
abbrev pub EveryRunFiresTogether : Type 0
EveryRunFiresTogether = (plan : Plan) → IsAccepted plan
    → plan_modulus plan % slot_length (plan_faults plan) ≡ 0
    → (requests : List Request) (faulty : List ℕ) → IsToleratedBy plan faulty
    → (first : ℕ) (run : List (Scene Fire)) → FireRun plan requests faulty first run
    → (t : ℕ) → plan_bound plan < t → t + slot_length (plan_faults plan) < length run
    → AllAre plan faulty (scene run t).states (slot_length (plan_faults plan)) 0
    → FiresTogether plan requests faulty first run t
