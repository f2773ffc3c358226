-- A slot of a register that was loaded in the round before decides.
use Rattle.std.proofs.Common.{◌≡◌, ℕ, ◌+◌, ◌-◌, ◌*◌, ◌%◌, ◌<◌, ◌≤◌, Bool, List, [], ◌∷◌, length}
use Rattle.std.proofs.Common.{get_or, Some, sym, ap, ◌∙◌, subst, arith}
use Rattle.std.proofs.Math.Nat.{add-zero}
use Rattle.std.proofs.lemmas.Bool.{ne_eqb, eq-eqb}
use Rattle.sync_types.specs.declared.states.Reg.{Reg}
use Rattle.sync_types.specs.States.{State, register_at, zero_register}
use Rattle.construction.specs.Steps.{state_of}
use Rattle.counter_core.specs.Meanings.{Meaning}
use Rattle.counter_core.specs.Overlays.{Layer, SameNumbers}
use Rattle.layer_laws.specs.Counters.{Bears, IsSettling}
use Rattle.layer_laws.specs.Scenes.{Scene, kept_of}
use Rattle.layer_laws.specs.CounterLayers.{LayerRun, scene}
use Rattle.layer_laws.specs.CounterSlots.{slot_length, agreed_in_turn, HasSlots, AllAre, TakesLast}
use Rattle.layer_laws.specs.CounterSlots.{SlotAgrees}
use Rattle.layer_laws.proofs.Settling.{few_of}
use Rattle.layer_laws.proofs.CounterSteps.{node_steps, shown_at, shows_rest, common_rest}
use Rattle.layer_laws.proofs.CounterSteps.{rest_before}
use Rattle.layer_laws.proofs.CounterCuts.{layer_register}
use Rattle.layer_laws.proofs.CounterSlots.{counts_of, slots_agree_over}
use Rattle.consensus_layer.specs.Agreeing.{loaded, turned, agree_step, IsAgreeing}
use Rattle.consensus_layer.specs.Agreeing.{SlotDecidesOver}

-- before the last round the register agrees
agrees_on : (n f i v input output x : ℕ) (heard : List State) → output % slot_length f ≡ x
    → x + 1 < slot_length f
    → (agree_step n f i v input output heard).register ≡ agreed_in_turn n f i v x heard
agrees_on n f i v input output x heard rest lt =
    let turn : ℕ = output % slot_length f in
    let r : Reg = agreed_in_turn n f i v turn heard in
    ap (λ (b : Bool). (turned b input r).register)
    (ne_eqb (turn + 1) (slot_length f) (λ e. omega (arith, e, rest, lt)))
    ∙ ap (λ y. agreed_in_turn n f i v y heard) rest

-- in the last round the result is decided and the input loaded
module _ (n f i v input output : ℕ) (heard : List State)
    (rest : output % slot_length f + 1 ≡ slot_length f) where
  loads : (agree_step n f i v input output heard).register ≡ loaded input
  loads =
      let r : Reg = agreed_in_turn n f i v (output % slot_length f) heard in
      ap (λ (b : Bool). (turned b input r).register)
      (eq-eqb (output % slot_length f + 1) (slot_length f) rest)

  decides : (agree_step n f i v input output heard).decided
      ≡ (agreed_in_turn n f i v (3 * f + 2) heard).a
  decides =
      let r : Reg = agreed_in_turn n f i v (output % slot_length f) heard in
      let e : output % slot_length f ≡ 3 * f + 2 = omega (arith, rest) in
      ap (λ (b : Bool). (turned b input r).decided)
      (eq-eqb (output % slot_length f + 1) (slot_length f) rest)
      ∙ ap (λ y. (agreed_in_turn n f i v y heard).a) e

pub has_slots : {Kept : Type 0} (layer : Layer Kept) (faults : ℕ) (input : ℕ → Kept → ℕ)
    → IsAgreeing layer faults input → HasSlots layer faults (slot_length faults) 0 0
has_slots layer faults input is = record {
  inside = let extra = is.extra in omega (arith, extra);
  room = omega arith;
  turns = λ v x output kept heard vlt xlt rest.
      ap (λ rs. get_or rs 0 zero_register) (is.step v output kept heard)
      ∙ (agrees_on layer.nodes faults layer.depth v (input v kept) output x heard
      (rest ∙ omega arith) xlt
      ∙ ap (λ d. agreed_in_turn layer.nodes faults d v x heard) (sym (add-zero layer.depth)));
}

module _ {Kept : Type 0} (counter : Meaning) (is_state : (v : ℕ) → State → Type 0)
    (settling : IsSettling counter is_state) (layer : Layer Kept)
    (same : SameNumbers layer counter) (input : ℕ → Kept → ℕ)
    (agreeing : IsAgreeing layer counter.faults input)
    (whole : counter.modulus % slot_length counter.faults ≡ 0) (faulty : List ℕ)
    (borne : Bears counter faulty) (first : ℕ) (run : List (Scene Kept))
    (is : LayerRun counter is_state layer faulty first run) where
  abbrev q : ℕ
  q = slot_length counter.faults

  -- the step of a node over the counter's numbers
  own_step : (v output : ℕ) (kept : Kept) (heard : List State)
      → (layer.next v kept output heard).registers
      ≡ (agree_step counter.nodes counter.faults counter.depth v
      (input v kept) output heard).register ∷ []
  own_step v output kept heard =
      agreeing.step v output kept heard
      ∙ (ap (λ k. (agree_step k counter.faults layer.depth v
      (input v kept) output heard).register ∷ []) same.nodes
      ∙ ap (λ d. (agree_step counter.nodes counter.faults d v
      (input v kept) output heard).register ∷ []) same.depth)

  pub slot_decides_over : (before : ℕ) → counter.bound ≤ before → before + 1 + q < length run
      → AllAre counter faulty (scene run (before + 1)).states q 0
      → SlotDecidesOver counter layer input faulty first run before
  slot_decides_over before lo hi begins =
      let front = settling.front in
      let quorum = settling.quorum in
      let few = few_of counter faulty borne in
      let counts = counts_of counter is_state layer settling faulty borne first run is in
      let t : ℕ = before + 1 in
      let zero = common_rest counter is_state layer faulty first run is front counts q t 0
      (omega arith) (omega arith) (omega arith) begins in
      let last_before : counts.output before % q + 1 ≡ q = (
      let e : t - 1 ≡ before = omega arith in
      ap (λ y. counts.output y % q + 1) (sym e)
      ∙ rest_before counter is_state layer faulty first run is front counts q t (omega arith) whole
      (omega arith) (omega arith) zero) in
      let slot : SlotAgrees counter layer 0 faulty first run (t + 0) =
      slots_agree_over layer counter is_state settling same q 0 0
      (has_slots layer counter.faults input agreeing) whole faulty borne first run is t
      (omega arith) (omega arith) begins in
      let here : t + 0 + (3 * counter.faults + 2) ≡ before + q = omega arith in
      let turn : t + (3 * counter.faults + 2) ≡ before + q = omega arith in
      record {
        value = slot.value;
        decides = λ v vlt ok.
            let end = subst (λ r. TakesLast counter layer 0 first run r v slot.value) here
            (slot.last v vlt ok) in
            let rest : counter.shows v (state_of end.heard v) % q + 1 ≡ q = (
            let r = ap (λ y. counter.shows v (state_of (scene run y).states v) % q)
            (sym turn) ∙ shows_rest counter is_state layer faulty first run is front counts q t
            (3 * counter.faults + 2) v whole (omega arith) zero (omega arith)
            (omega arith) vlt ok in
            let own = ap (λ st. counter.shows v st % q) end.own in
            omega (arith, r, own)) in
            let kept : Kept = layer.begun (first + (before + q))
            (kept_of layer (scene run (before + q)) v) in
            record {
              heard = end.heard;
              steps = end.steps;
              decided = decides counter.nodes counter.faults counter.depth v
                  (input v kept) (counter.shows v (state_of end.heard v)) end.heard rest
                  ∙ (ap (λ d. (agreed_in_turn counter.nodes counter.faults d v
                  (3 * counter.faults + 2) end.heard).a) (sym (add-zero counter.depth))
                  ∙ ap (λ (r : Reg). r.a) end.locked);
            };
        valid = λ common all. slot.valid common (λ v vlt ok.
            let steps = node_steps counter is_state layer faulty first run is before v (omega arith)
            vlt ok in
            let kept : Kept = kept_of layer (scene run before) v in
            let rest : counter.shows v (state_of steps.heard v) % q + 1 ≡ q = (
            let r = ap (λ y. y % q + 1)
            (ap (counter.shows v) (steps.honest v vlt ok)
            ∙ shown_at counter is_state layer faulty first run is front counts before v lo
            (omega arith) vlt ok) in
            r ∙ last_before) in
            ap (λ y. (register_at (counter.depth + 0) (state_of (scene run y).states v)).a)
            (add-zero t)
            ∙ (ap (λ st. (register_at (counter.depth + 0) st).a) steps.steps.state
            ∙ (ap (λ (r : Reg). r.a)
            (layer_register counter layer 0 (first + before) kept v steps.heard
            (front.deep v steps.heard vlt))
            ∙ (ap (λ rs. (get_or rs 0 zero_register).a)
            (own_step v (counter.shows v (state_of steps.heard v))
            (layer.begun (first + before) kept) steps.heard)
            ∙ (ap (λ (r : Reg). r.a)
            (loads counter.nodes counter.faults counter.depth v
            (input v (layer.begun (first + before) kept))
            (counter.shows v (state_of steps.heard v)) steps.heard rest)
            ∙ ap Some (all v vlt ok))))));
      }
