-- All correct nodes come out of a slot with one value.
use Rattle.std.proofs.Common.{◌≡◌, ◌⊎◌, ℕ, ◌+◌, ◌*◌, ◌/◌, ◌%◌, ◌<◌, ◌≤◌, inl, inr, Bool, true}
use Rattle.std.proofs.Common.{false, not, ◌&&◌, ltb, if◌then◌else◌, List, length, map, Option, None}
use Rattle.std.proofs.Common.{refl, sym, ap, ◌∙◌, subst, arith}
use Rattle.std.proofs.Math.Nat.{add-zero}
use Rattle.std.proofs.lemmas.Bool.{false≢true, ltb-true, lt-ltb, and_parts, and_from, cases_lt}
use Rattle.std.proofs.lemmas.Bool.{le-ltb, not-true, not_from_false}
use Rattle.std.proofs.lemmas.List.{length-map, get_or-map}
use Rattle.sync_types.specs.declared.states.Reg.{Reg}
use Rattle.sync_types.specs.States.{State, zero_state, zero_register, register_at}
use Rattle.counting.specs.Places.{places}
use Rattle.construction.specs.PhaseKing.{instructed}
use Rattle.construction.specs.Steps.{state_of}
use Rattle.construction.specs.Runs.{is_in}
use Rattle.phase_king.specs.Hearing.{Hears, Obeys, AllObey}
use Rattle.phase_king.specs.Laws.{IsSlot}
use Rattle.phase_king.proofs.Slots.{agrees}
use Rattle.counter_core.specs.Meanings.{Meaning}
use Rattle.counter_core.specs.Overlays.{Layer, SameNumbers}
use Rattle.layer_laws.specs.Counters.{HasFront}
use Rattle.layer_laws.specs.Scenes.{Scene, kept_of}
use Rattle.layer_laws.specs.CounterLayers.{LayerRun, NodeSteps, StepsAs, scene}
use Rattle.layer_laws.specs.CounterSlots.{slot_length, agreed_in_turn, HasSlots, SlotAgrees}
use Rattle.layer_laws.proofs.CounterCuts.{layer_register}
use Rattle.layer_laws.proofs.CounterSteps.{node_steps}

-- ---- one of many for each correct place

module _ (n : ℕ) (faulty : ℕ → Bool) (P : ℕ → Reg → Type 0)
    (each : (v : ℕ) → v < n → faulty v ≡ false → (r : Reg) × P v r) where
  chosen_by : (v : ℕ) (b : Bool) → (ltb v n && not (faulty v)) ≡ b → Reg
  chosen_by v true e =
      let p = and_parts (ltb v n) (not (faulty v)) e in
      (each v (ltb-true _ _ p.0) (not-true _ p.1)).0
  chosen_by v false e = zero_register

  chosen_has : (v : ℕ) (b : Bool) (e : (ltb v n && not (faulty v)) ≡ b) → b ≡ true
      → P v (chosen_by v b e)
  unfolding chosen_by
  chosen_has v true e h =
      let p = and_parts (ltb v n) (not (faulty v)) e in
      (each v (ltb-true _ _ p.0) (not-true _ p.1)).1
  chosen_has v false e h = absurd (false≢true h)

  chosen : ℕ → Reg
  chosen v = chosen_by v (ltb v n && not (faulty v)) refl

  chosen_is : (v : ℕ) → v < n → faulty v ≡ false → P v (chosen v)
  unfolding chosen
  chosen_is v lt ok =
      chosen_has v (ltb v n && not (faulty v)) refl
      (and_from (ltb v n) (not (faulty v)) (lt-ltb _ _ lt) (not_from_false _ ok))

-- ---- a slot of a register, whose last result is any that obeys

-- rounds below the end have the registers, and the end has the results
ends_with : (end : ℕ) (registers : ℕ → ℕ → Reg) (results : ℕ → Reg) → ℕ → ℕ → Reg
ends_with end registers results x = if ltb x end then registers x else results

before_end : (end : ℕ) (registers : ℕ → ℕ → Reg) (results : ℕ → Reg) (x : ℕ) → x < end
    → ends_with end registers results x ≡ registers x
unfolding ends_with
before_end end registers results x lt =
    ap (λ b. if b then registers x else results) (lt-ltb x end lt)

at_end : (end : ℕ) (registers : ℕ → ℕ → Reg) (results : ℕ → Reg)
    → ends_with end registers results end ≡ results
unfolding ends_with
at_end end registers results =
    ap (λ b. if b then registers end else results) (le-ltb end end (omega arith))

module _ {Kept : Type 0} (counter : Meaning) (is_state : (v : ℕ) → State → Type 0)
    (front : HasFront counter) (layer : Layer Kept)
    (same : SameNumbers layer counter) (period from place : ℕ)
    (has : HasSlots layer counter.faults period from place)
    (faulty : List ℕ) (quorum : 3 * counter.faults < counter.nodes)
    (few : places (is_in faulty) counter.nodes ≤ counter.faults)
    (first : ℕ) (run : List (Scene Kept)) (is : LayerRun counter is_state layer faulty first run)
    (s : ℕ) (room : s + slot_length counter.faults < length run)
    (turns : (x v : ℕ) → x < slot_length counter.faults → v < counter.nodes
    → is_in faulty v ≡ false
    → counter.shows v (state_of (scene run (s + x)).states v) % period ≡ from + x)
  where
    abbrev n : ℕ
    n = counter.nodes

    abbrev f : ℕ
    f = counter.faults

    -- the register's index in a state
    abbrev i : ℕ
    i = counter.depth + place

    abbrev value_of : State → Option ℕ
    value_of state = (register_at i state).a

    abbrev register : ℕ → ℕ → Reg
    register x v = register_at i (state_of (scene run (s + x)).states v)

    hears : (x v : ℕ) (steps : NodeSteps counter is_state layer faulty first run (s + x) v)
        → Hears n (is_in faulty) (register x) (map value_of steps.heard)
    hears x v steps = record {
      size = length-map steps.heard value_of ∙ steps.size;
      honest =
          λ u lt ok. get_or-map value_of steps.heard u (zero_state 0) None
          (let long = steps.size in omega (arith, lt))
          ∙ ap value_of (steps.honest u lt ok);
    }

    obeys_of : (x v : ℕ) → v < n → is_in faulty v ≡ false
        → (steps : NodeSteps counter is_state layer faulty first run (s + x) v) → (r : Reg)
        → r ≡ agreed_in_turn n f i v x steps.heard
        → Obeys n f (λ a. a) (is_in faulty) (register x) (x % 3) (x / 3) (register x v) r
    obeys_of x v lt ok steps r e = record {
      heard = map value_of steps.heard;
      hears = hears x v steps;
      step =
          e
          ∙ ap (λ own. instructed n f (λ a. a) (x % 3) own (map value_of steps.heard) (x / 3))
          (ap (register_at i) (steps.honest v lt ok));
    }

    -- a round that is not the last one
    turn : (x v : ℕ) → x + 1 < slot_length f → v < n → is_in faulty v ≡ false
        → Obeys n f (λ a. a) (is_in faulty) (register x) (x % 3) (x / 3) (register x v)
        (register (x + 1) v)
    turn x v lt vlt ok =
        let steps = node_steps counter is_state layer faulty first run is (s + x) v
        (omega (arith, room, lt)) vlt
        ok in
        let kept : Kept = kept_of layer (scene run (s + x)) v in
        let own = steps.honest v vlt ok in
        let e : s + (x + 1) ≡ s + x + 1 = omega arith in
        let nodes = same.nodes in
        obeys_of x v vlt ok steps (register (x + 1) v)
        (ap (λ t. register_at i (state_of (scene run t).states v)) e
        ∙ (ap (register_at i) steps.steps.state
        ∙ (layer_register counter layer place (first + (s + x)) kept v steps.heard
        (front.deep v steps.heard vlt)
        ∙
        (has.turns v x (counter.shows v (state_of steps.heard v))
        (layer.begun (first + (s + x)) kept) steps.heard (omega (arith, vlt, nodes)) lt
        (ap (λ st. counter.shows v st % period) own ∙ turns x v (omega arith) vlt ok)
        ∙ (ap (λ k. agreed_in_turn k f (layer.depth + place) v x steps.heard) same.nodes
        ∙ ap (λ d. agreed_in_turn n f (d + place) v x steps.heard) same.depth)))))

    -- the last round, and its result
    abbrev last : ℕ
    last = 3 * f + 2

    Ends : ℕ → Reg → Type 0
    Ends v r =
        (steps : NodeSteps counter is_state layer faulty first run (s + last) v)
        × (r ≡ agreed_in_turn n f i v last steps.heard)

    each_ends : (v : ℕ) → v < n → is_in faulty v ≡ false → (r : Reg) × Ends v r
    unfolding Ends
    each_ends v lt ok =
        let steps = node_steps counter is_state layer faulty first run is (s + last) v
        (omega (arith, room)) lt ok in
        (agreed_in_turn n f i v last steps.heard, (steps, refl))

    result : ℕ → Reg
    result = chosen n (is_in faulty) Ends each_ends

    abbrev registers : ℕ → ℕ → Reg
    registers = ends_with (slot_length f) register result

    slot_by : (x : ℕ) → x < slot_length f → (x + 1 < slot_length f) ⊎ (slot_length f ≤ x + 1)
        → AllObey n f (λ a. a) (is_in faulty) (x % 3) (x / 3) (registers x) (registers (x + 1))
    unfolding Ends result
    slot_by x lt (inl less) =
        rw (
          before_end (slot_length f) register result x lt,
          before_end (slot_length f) register result (x + 1) less,
        )
        (λ v vlt ok. turn x v less vlt ok)
    slot_by x lt (inr le) =
        let e : x ≡ last = omega arith in
        let e' : x + 1 ≡ slot_length f = omega arith in
        rw (
          before_end (slot_length f) register result x lt,
          ap registers e',
          at_end (slot_length f) register result,
        )
        (λ v vlt ok. let end = chosen_is n (is_in faulty) Ends each_ends v vlt ok in
        subst
        (λ y. Obeys n f (λ a. a) (is_in faulty) (register y) (y % 3) (y / 3) (register y v)
        (result v))
        (sym e) (obeys_of last v vlt ok end.0 (result v) end.1))

    is_slot : IsSlot n f (is_in faulty) registers
    is_slot x lt = slot_by x lt (cases_lt (x + 1) (slot_length f))

    pub slot_agrees : SlotAgrees counter layer place faulty first run s
    unfolding Ends result
    slot_agrees =
        let a = agrees n f (is_in faulty) quorum few registers is_slot in
        record {
          value = a.value;
          last = λ v lt ok.
              let end = chosen_is n (is_in faulty) Ends each_ends v lt ok in
              let steps = end.0 in
              record {
                heard = steps.heard;
                own = steps.honest v lt ok;
                steps =
                    subst
                    (λ (k : ℕ). StepsAs counter layer k (scene run (s + last)) steps.heard v
                    (scene run (s + last + 1)))
                    refl steps.steps;
                locked =
                    sym end.1
                    ∙ (sym (ap (λ (rs : ℕ → Reg). rs v) (at_end (slot_length f) register result))
                    ∙ a.locked v lt ok);
              };
          valid = λ common all. a.valid common (λ v lt ok.
              ap (λ (rs : ℕ → Reg). (rs v).a)
              (before_end (slot_length f) register result 0 (omega arith))
              ∙
              (ap (λ t. (register_at i (state_of (scene run t).states v)).a) (add-zero s)
              ∙ all v lt ok));
        }
