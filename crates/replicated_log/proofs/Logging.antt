-- Layers that keep a log: what a node commands may depend on what it keeps, and on its output.
use Rattle.std.proofs.Common.{◌≡◌, ℕ, ◌+◌, ◌-◌, ◌%◌, ◌<◌, Bool, List, [], ◌∷◌, length, take, get_or}
use Rattle.std.proofs.Common.{unwrap_or, sym, ap, ◌∙◌, arith}
use Rattle.std.specs.Prelude.{if◌then◌else◌}
use Rattle.std.proofs.Math.Nat.{add-zero}
use Rattle.std.proofs.lemmas.Bool.{ne_eqb, eq-eqb}
use Rattle.sync_types.specs.declared.states.Reg.{Reg}
use Rattle.sync_types.specs.States.{State, register_at, zero_register}
use Rattle.construction.specs.Steps.{state_of}
use Rattle.counter_core.specs.Meanings.{Meaning}
use Rattle.counter_core.specs.Overlays.{Layer, SameNumbers}
use Rattle.layer_laws.specs.Scenes.{Scene, kept_of}
use Rattle.layer_laws.specs.CounterLayers.{StepsAs}
use Rattle.layer_laws.specs.Slots.{slot_length, agreed_in_turn, HasSlots}
use Rattle.layer_laws.proofs.CounterCuts.{layer_register}
use Rattle.consensus_layer.specs.Agreeing.{loaded}
use Rattle.replicated_log.specs.declared.entries.Entry.{Entry}
use Rattle.replicated_log.specs.EntryLength.{entry_length, owner_at}
use Rattle.replicated_log.specs.Logs.{agreement_after, log_after}

-- the register of agreement, if the output is past the first of an entry
pub agrees_on : (n f depth v output x : ℕ) (heard : List State) → output % entry_length f ≡ 1 + x
    → agreement_after n f depth v output heard ≡ agreed_in_turn n f depth v x heard
agrees_on n f depth v output x heard rest =
    let p : ℕ = output % entry_length f in
    let e : p - 1 ≡ x = omega (arith, rest) in
    ap
    (λ (b : Bool). if b
    then loaded
    (unwrap_or (register_at (depth + 1) (state_of heard (owner_at n f output))).a 0)
    else agreed_in_turn n f depth v (p - 1) heard)
    (ne_eqb p 0 (λ z. omega (arith, z, rest)))
    ∙ ap (λ y. agreed_in_turn n f depth v y heard) e

pub hears_owner : (n f depth v output : ℕ) (heard : List State) → output % entry_length f ≡ 0
    → agreement_after n f depth v output heard
    ≡ loaded (unwrap_or (register_at (depth + 1) (state_of heard (owner_at n f output))).a 0)
hears_owner n f depth v output heard rest =
    let p : ℕ = output % entry_length f in
    ap
    (λ (b : Bool). if b
    then loaded
    (unwrap_or (register_at (depth + 1) (state_of heard (owner_at n f output))).a 0)
    else agreed_in_turn n f depth v (p - 1) heard)
    (eq-eqb p 0 rest)

pub keeps_log : (f keep output x : ℕ) (agreement : Reg) (log : List Entry)
    → output % entry_length f ≡ x → x + 1 < entry_length f
    → log_after f keep output agreement log ≡ log
keeps_log f keep output x agreement log rest lt =
    ap
    (λ (b : Bool). if b
    then take keep
    (record { slot = output - slot_length f; value = unwrap_or agreement.a 0 } ∷ log)
    else log)
    (ne_eqb (output % entry_length f + 1) (entry_length f) (λ e. omega (arith, e, rest, lt)))

pub puts_entry : (f keep output : ℕ) (agreement : Reg) (log : List Entry)
    → output % entry_length f + 1 ≡ entry_length f
    → log_after f keep output agreement log
    ≡ take keep
    (record { slot = output - slot_length f; value = unwrap_or agreement.a 0 } ∷ log)
puts_entry f keep output agreement log rest =
    ap
    (λ (b : Bool). if b
    then take keep
    (record { slot = output - slot_length f; value = unwrap_or agreement.a 0 } ∷ log)
    else log)
    (eq-eqb (output % entry_length f + 1) (entry_length f) rest)

-- The layer's registers are those of agreement and of commands, and of what a node keeps its log is
-- a part. What is commanded in the round before configuration t is what is said, if the next output
-- is that of a slot.
pub record IsLogging {Kept : Type 0} (counter : Meaning) (layer : Layer Kept) (keep : ℕ)
    (logs : Kept → List Entry) (says : (t v slot : ℕ) → ℕ) (first : ℕ) : Type 0 where
  pub same : SameNumbers layer counter
  pub extra : layer.extra ≡ 2
  pub command : (v : ℕ) → Kept → (output : ℕ) → ℕ
  pub begun : (at : ℕ) (kept : Kept) → logs (layer.begun at kept) ≡ logs kept
  pub registers : (v output : ℕ) (kept : Kept) (heard : List State)
      → (layer.next v kept output heard).registers
      ≡ agreement_after counter.nodes counter.faults counter.depth v output heard
      ∷ loaded (command v kept output) ∷ []
  pub kept : (v output : ℕ) (kept : Kept) (heard : List State)
      → logs (layer.next v kept output heard).kept
      ≡ log_after counter.faults keep output
      (agreement_after counter.nodes counter.faults counter.depth v output heard)
      (logs kept)
  pub meant : (t v output slot : ℕ) (kept : Kept) → (output + 1) % counter.modulus ≡ slot
      → command v (layer.begun (first + (t - 1)) kept) output ≡ says t v slot

module _ {Kept : Type 0} (counter : Meaning) (layer : Layer Kept) (keep : ℕ)
    (logs : Kept → List Entry)
    (says : (t v slot : ℕ) → ℕ) (first : ℕ)
    (logging : IsLogging counter layer keep logs says first) where
  abbrev n : ℕ
  n = counter.nodes

  abbrev f : ℕ
  f = counter.faults

  abbrev d : ℕ
  d = counter.depth

  pub has_slots : HasSlots layer f (entry_length f) 1 0
  has_slots = record {
    inside = let extra = logging.extra in omega (arith, extra);
    room = omega arith;
    turns = λ v x output kept heard vlt xlt rest.
        ap (λ rs. get_or rs 0 zero_register) (logging.registers v output kept heard)
        ∙ agrees_on n f d v output x heard rest
        ∙ ap (λ k. agreed_in_turn k f d v x heard) (sym logging.same.nodes)
        ∙ ap (λ i. agreed_in_turn layer.nodes f i v x heard) (sym logging.same.depth)
        ∙ ap (λ i. agreed_in_turn layer.nodes f i v x heard) (sym (add-zero layer.depth));
  }

  -- what a node has after its step
  module _ (at v : ℕ) (old new : Scene Kept) (heard : List State)
      (steps : StepsAs counter layer at old heard v new) where
    abbrev output : ℕ
    output = counter.shows v (state_of heard v)

    abbrev begun : Kept
    begun = layer.begun at (kept_of layer old v)

    pub log_is : logs (kept_of layer new v)
        ≡ log_after f keep output (agreement_after n f d v output heard)
        (logs (kept_of layer old v))
    log_is =
        ap logs steps.kept
        ∙ logging.kept v output begun heard
        ∙ ap (log_after f keep output (agreement_after n f d v output heard))
        (logging.begun at (kept_of layer old v))

    pub agreement_is : length (counter.next v heard).registers ≡ d
        → register_at d (state_of new.states v)
        ≡ agreement_after n f d v output heard
    agreement_is deep =
        ap (λ i. register_at i (state_of new.states v)) (sym (add-zero d))
        ∙ ap (register_at (d + 0)) steps.state
        ∙ layer_register counter layer 0 at (kept_of layer old v) v heard deep
        ∙ ap (λ rs. get_or rs 0 zero_register) (logging.registers v output begun heard)

    pub command_is : length (counter.next v heard).registers ≡ d
        → register_at (d + 1) (state_of new.states v)
        ≡ loaded (logging.command v begun output)
    command_is deep =
        ap (register_at (d + 1)) steps.state
        ∙ layer_register counter layer 1 at (kept_of layer old v) v heard deep
        ∙ ap (λ rs. get_or rs 1 zero_register) (logging.registers v output begun heard)
