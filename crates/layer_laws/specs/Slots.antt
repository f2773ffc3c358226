-- Slots of a register of a layer on a plan: those on its counter.
use Rattle.std.specs.Prelude.{ℕ, List}
use Rattle.sync_types.specs.States.{State}
use Rattle.construction.specs.Plans.{Plan}
use Rattle.plan_laws.specs.PlanMeaning.{plan_meaning}
use Rattle.counter_core.specs.Overlays.{Layer}
use Rattle.layer_laws.specs.Scenes.{Scene}
use Rattle.layer_laws.specs.CounterSlots as counters
pub use Rattle.layer_laws.specs.CounterSlots.{slot_length, agreed, agreed_in_turn, HasSlots}

-- the outputs of all correct nodes have this remainder
abbrev pub AllAre : (plan : Plan) (faulty : List ℕ) (config : List State) (period rest : ℕ)
    → Type 0
AllAre plan = counters.AllAre (plan_meaning plan)

module _ {Kept : Type 0} (plan : Plan) (layer : Layer Kept) (place : ℕ) where
  -- the values of the register at a place of all correct nodes are this one
  abbrev pub AllHold : (faulty : List ℕ) (config : List State) (value : ℕ) → Type 0
  AllHold = counters.AllHold (plan_meaning plan) layer place

  -- round t of a run is the last of a slot for node v
  abbrev pub TakesLast : (first : ℕ) (run : List (Scene Kept)) (t v value : ℕ) → Type 0
  TakesLast = counters.TakesLast (plan_meaning plan) layer place

  -- all correct nodes come out of the slot from configuration t on with one value
  abbrev pub SlotAgrees : (faulty : List ℕ) (first : ℕ) (run : List (Scene Kept)) (t : ℕ) → Type 0
  SlotAgrees = counters.SlotAgrees (plan_meaning plan) layer place
