-- A register of a layer that agrees: in slots of F + 1 phases it takes the phase king's
-- instructions, without increment, over all nodes of the counter.
use Rattle.std.specs.Prelude.{◌≡◌, ℕ, ◌+◌, ◌*◌, ◌/◌, ◌%◌, ◌<◌, ◌≤◌, List, map, Some, false}
use Rattle.std.specs.Prelude.{slice_index_or}
use Rattle.sync_types.specs.declared.states.Reg.{Reg}
use Rattle.sync_types.specs.States.{State, register_at, zero_register}
use Rattle.construction.specs.PhaseKing.{instructed, locked_at}
use Rattle.construction.specs.Steps.{state_of}
use Rattle.construction.specs.Runs.{is_in}
use Rattle.counter_core.specs.Meanings.{Meaning}
use Rattle.counter_core.specs.Overlays.{Layer}
use Rattle.layer_laws.specs.Scenes.{Scene}
use Rattle.layer_laws.specs.CounterLayers.{scene, StepsAs}

-- the rounds of a slot: three for each of F + 1 kings
abbrev pub slot_length : (faults : ℕ) → ℕ
slot_length faults = 3 * (faults + 1)

-- Register i of node v after an instruction without increment over n nodes, of which f may be
-- faulty, by the states that it hears.
abbrev pub agreed : (n f i v kind king : ℕ) → (heard : List State) → Reg
agreed n f i v kind king heard =
    instructed n f (λ a. a) kind (register_at i (state_of heard v))
    (map (λ s. (register_at i s).a) heard) king

-- round x of a slot is of kind x % 3 under king x / 3
abbrev pub agreed_in_turn : (n f i v x : ℕ) → (heard : List State) → Reg
agreed_in_turn n f i v x heard = agreed n f i v (x % 3) (x / 3) heard

-- The layer's register at a place has slots: outputs are taken modulo the period, and round x of a
-- slot is taken at `from + x`. After the last round the layer does with the register what it wants.
pub record HasSlots {Kept : Type 0} (layer : Layer Kept) (faults period from place : ℕ)
    : Type 0 where
  pub inside : place < layer.extra
  pub room : from + slot_length faults ≤ period
  pub turns : (v x output : ℕ) (kept : Kept) (heard : List State) → v < layer.nodes
      → x + 1 < slot_length faults → output % period ≡ from + x
      → slice_index_or (layer.next v kept output heard).registers place zero_register
      ≡ agreed_in_turn layer.nodes faults (layer.depth + place) v x heard

-- the outputs of all correct nodes have this remainder
abbrev pub AllAre : (counter : Meaning) (faulty : List ℕ) (config : List State) (period rest : ℕ)
    → Type 0
AllAre counter faulty config period rest = (v : ℕ) → v < counter.nodes → is_in faulty v ≡ false
    → counter.shows v (state_of config v) % period ≡ rest

-- the values of the register at a place of all correct nodes are this one
abbrev pub AllHold : {Kept : Type 0} (counter : Meaning) (layer : Layer Kept) (place : ℕ)
    (faulty : List ℕ) (config : List State) (value : ℕ) → Type 0
AllHold counter layer place faulty config value = (v : ℕ) → v < counter.nodes
    → is_in faulty v ≡ false
    → (register_at (counter.depth + place) (state_of config v)).a ≡ Some value

-- Round t of a run is the last of a slot for node v, and its register comes out locked at the
-- value.
pub record TakesLast {Kept : Type 0} (counter : Meaning) (layer : Layer Kept) (place first : ℕ)
    (run : List (Scene Kept)) (t v value : ℕ) : Type 0 where
  pub heard : List State
  pub own : state_of heard v ≡ state_of (scene run t).states v
  pub steps : StepsAs counter layer (first + t) (scene run t) heard v (scene run (t + 1))
  pub locked : agreed_in_turn counter.nodes counter.faults (counter.depth + place) v
      (3 * counter.faults + 2) heard ≡ locked_at value

-- Rounds 0 to the last of a slot are taken from configuration t on. All correct nodes come out with
-- one value, which is the common one if their registers had one in configuration t.
pub record SlotAgrees {Kept : Type 0} (counter : Meaning) (layer : Layer Kept) (place : ℕ)
    (faulty : List ℕ) (first : ℕ) (run : List (Scene Kept)) (t : ℕ) : Type 0 where
  pub value : ℕ
  pub last : (v : ℕ) → v < counter.nodes → is_in faulty v ≡ false
      → TakesLast counter layer place first run (t + (3 * counter.faults + 2)) v value
  pub valid : (common : ℕ) → AllHold counter layer place faulty (scene run t).states common
      → value ≡ common
