-- The register of agreement on a counter: in each slot it agrees on a value, and at its end it is
-- loaded with the input of the next slot.
use Rattle.std.specs.Prelude.{◌≡◌, ℕ, ◌+◌, ◌%◌, ◌<◌, List, [], ◌∷◌, Bool, true, false, ◌==◌, Option}
use Rattle.std.specs.Prelude.{Some, None}
use Rattle.sync_types.specs.declared.states.Reg.{Reg}
use Rattle.sync_types.specs.States.{State}
use Rattle.construction.specs.Plans.{Plan}
use Rattle.construction.specs.Steps.{state_of}
use Rattle.construction.specs.Runs.{is_in}
use Rattle.plan_laws.specs.PlanMeaning.{plan_meaning}
use Rattle.counter_core.specs.Meanings.{Meaning}
use Rattle.counter_core.specs.Overlays.{Layer}
use Rattle.layer_laws.specs.Scenes.{Scene, kept_of}
use Rattle.layer_laws.specs.CounterLayers.{StepsAs, scene}
use Rattle.layer_laws.specs.CounterSlots.{slot_length, agreed_in_turn}

-- an input as it is loaded: finite and not marked
abbrev pub loaded : ℕ → Reg
loaded a = record { a = Some a; d = false }

-- the register after a round, and what was decided in it, if its slot ended
pub record Agreeing : Type 0 where
  pub register : Reg
  pub decided : Option ℕ

-- after a round, by its result: in the last one the result is decided and the input loaded
abbrev pub turned : (last : Bool) (input : ℕ) (result : Reg) → Agreeing
turned true input result = record { register = loaded input; decided = result.a }
turned false input result = record { register = result; decided = None }

-- The round of node v on register i, over n nodes of which f may be faulty. The output tells which
-- round of a slot it is.
abbrev pub agree_step : (n f i v input output : ℕ) (heard : List State) → Agreeing
agree_step n f i v input output heard =
    let turn = output % slot_length f in
    turned (turn + 1 == slot_length f) input (agreed_in_turn n f i v turn heard)

-- The layer's register is that of agreement. A node's input may depend on what it keeps, with the
-- round's number put to it.
pub record IsAgreeing {Kept : Type 0} (layer : Layer Kept) (faults : ℕ)
    (input : ℕ → Kept → ℕ) : Type 0 where
  pub extra : layer.extra ≡ 1
  pub step : (v output : ℕ) (kept : Kept) (heard : List State)
      → (layer.next v kept output heard).registers
      ≡ (agree_step layer.nodes faults layer.depth v (input v kept) output heard).register ∷ []

-- Node v steps in round t of a run, and decides the value in it.
pub record NodeDecidesOver {Kept : Type 0} (counter : Meaning) (layer : Layer Kept)
    (input : ℕ → Kept → ℕ) (first : ℕ) (run : List (Scene Kept)) (t v value : ℕ) : Type 0 where
  pub heard : List State
  pub steps : StepsAs counter layer (first + t) (scene run t) heard v (scene run (t + 1))
  pub decided : let kept = layer.begun (first + t) (kept_of layer (scene run t) v) in
      (agree_step counter.nodes counter.faults counter.depth v (input v kept)
      (counter.shows v (state_of heard v)) heard).decided ≡ Some value

-- the input of node v in round t
abbrev pub input_in : {Kept : Type 0} → Layer Kept → (input : ℕ → Kept → ℕ) → (first : ℕ)
    → List (Scene Kept) → (t v : ℕ) → ℕ
input_in layer input first run t v =
    input v (layer.begun (first + t) (kept_of layer (scene run t) v))

-- All correct nodes decide one value in the last round of the slot that begins in configuration t.
-- It is the common input of the round before, if they had one.
pub record SlotDecidesOver {Kept : Type 0} (counter : Meaning) (layer : Layer Kept)
    (input : ℕ → Kept → ℕ) (faulty : List ℕ) (first : ℕ) (run : List (Scene Kept)) (before : ℕ)
    : Type 0 where
  pub value : ℕ
  pub decides : (v : ℕ) → v < counter.nodes → is_in faulty v ≡ false
      → NodeDecidesOver counter layer input first run (before + slot_length counter.faults) v value
  pub valid : (common : ℕ)
      → ((v : ℕ) → v < counter.nodes → is_in faulty v ≡ false
      → input_in layer input first run before v ≡ common) → value ≡ common
