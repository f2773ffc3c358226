-- Every slot of a log puts one entry.
use Rattle.std.proofs.Common.{◌≡◌, ℕ, zero, suc, ◌+◌, ◌-◌, ◌*◌, ◌/◌, ◌%◌, ◌<◌, ◌≤◌, false, List}
use Rattle.std.proofs.Common.{◌∷◌, length, take, map, unwrap_or, Some, refl, sym, ap, ◌∙◌, subst}
use Rattle.std.proofs.Common.{arith}
use Rattle.std.proofs.Math.Nat.{add-zero, mod-eq_of_lt, mod-lt, div-add-mod, mul-le-mul_left}
use Rattle.std.proofs.Math.Nat.{lt_of_mul-lt-mul_left, mul-mod_left}
use Rattle.std.proofs.lemmas.Nat.Gcd.{dvd_of_mod-eq-zero, mod-eq-zero_of_dvd, dvd_trans}
use Rattle.std.proofs.lemmas.List.{length-map}
use Rattle.sync_types.specs.declared.states.Reg.{Reg}
use Rattle.sync_types.specs.States.{State, register_at}
use Rattle.construction.specs.Steps.{state_of}
use Rattle.construction.specs.Runs.{is_in, IsState}
use Rattle.construction.specs.PhaseKing.{locked_at}
use Rattle.counting.specs.Places.{places}
use Rattle.counting.proofs.Places.{one_fails}
use Rattle.plan_laws.specs.PlanMeaning.{plan_meaning}
use Rattle.counter_core.specs.Meanings.{Meaning, cut}
use Rattle.counter_core.specs.Overlays.{Layer}
use Rattle.construction.specs.Machines.{CountsFrom}
use Rattle.layer_laws.specs.Counters.{Bears, HasFront, IsSettling}
use Rattle.layer_laws.specs.Numbers.{numbers_in}
use Rattle.layer_laws.specs.Scenes.{Scene, kept_of}
use Rattle.layer_laws.specs.CounterLayers.{LayerRun, scene, without_layer}
use Rattle.layer_laws.specs.CounterSlots.{slot_length, agreed_in_turn, AllAre, SlotAgrees}
use Rattle.layer_laws.specs.CounterSlots.{TakesLast}
use Rattle.layer_laws.proofs.Settling.{few_of}
use Rattle.layer_laws.proofs.CounterCuts.{configuration_at}
use Rattle.layer_laws.proofs.CounterSteps.{node_steps, shows_rest, common_rest, shown_at}
use Rattle.layer_laws.proofs.CounterSlots.{counts_of, slots_agree_over}
use Rattle.layer_laws.proofs.PlanCounters.{plans_settle}
use Rattle.replicated_log.specs.declared.entries.Entry.{Entry}
use Rattle.replicated_log.specs.EntryLength.{entry_length, owner_at, command_at}
use Rattle.replicated_log.specs.LogContent.{LogContent}
use Rattle.replicated_log.specs.Logs.{agreement_after, log_layer_over}
use Rattle.replicated_log.specs.PutEntries.{PutsOneOver, HasEntriesOver, commands_in_turn_over}
use Rattle.replicated_log.specs.PutEntries.{EverySlotPutsOneOver, EverySlotPutsOne}
use Rattle.replicated_log.proofs.Logging.{agrees_on, hears_owner, keeps_log, puts_entry, IsLogging}
use Rattle.replicated_log.proofs.Logging.{has_slots, log_is, agreement_is, command_is}

-- a multiple below a multiple is a whole step below it
step_below : (e a c : ℕ) → 0 < e → a % e ≡ 0 → c % e ≡ 0 → a < c → a + e ≤ c
step_below e a c some ra rc lt =
    let pa : e * (a / e) ≡ a = omega (arith, div-add-mod a e, ra) in
    let pc : e * (c / e) ≡ c = omega (arith, div-add-mod c e, rc) in
    let less : a / e < c / e = lt_of_mul-lt-mul_left e (omega (arith, pa, pc, lt)) in
    let up : e * (a / e + 1) ≤ e * (c / e) = mul-le-mul_left e (omega (arith, less)) in
    omega (arith, up, pa, pc)

module _ {Kept : Type 0} (counter : Meaning) (is_state : (v : ℕ) → State → Type 0)
    (settling : IsSettling counter is_state) (multiple : HasEntriesOver counter)
    (layer : Layer Kept) (keep : ℕ) (logs : Kept → List Entry) (says : (t v slot : ℕ) → ℕ)
    (first : ℕ) (logging : IsLogging counter layer keep logs says first) (faulty : List ℕ)
    (borne : Bears counter faulty) (run : List (Scene Kept))
    (is : LayerRun counter is_state layer faulty first run) where
  abbrev n : ℕ
  n = counter.nodes

  abbrev f : ℕ
  f = counter.faults

  abbrev d : ℕ
  d = counter.depth

  abbrev e : ℕ
  e = entry_length f

  abbrev log : Scene Kept → (v : ℕ) → List Entry
  log s v = logs (kept_of layer s v)

  whole : counter.modulus % e ≡ 0
  whole =
      mod-eq-zero_of_dvd e
      (dvd_trans e (dvd_of_mod-eq-zero e (mul-mod_left n e)) (dvd_of_mod-eq-zero (n * e) multiple))

  output_below : (t v : ℕ) → t < length run → v < n
      → counter.shows v (state_of (scene run t).states v) < counter.modulus
  output_below t v lt vlt =
      let state : State = state_of (scene run t).states v in
      let config = configuration_at counter is_state layer faulty first run is t lt in
      subst (λ y. y < counter.modulus) (settling.front.shows v state vlt)
      (settling.shown v (cut d state) vlt (config.states v vlt).front)

  front : HasFront counter
  front = settling.front

  quorum : 3 * f < n
  quorum = settling.quorum

  few : places (is_in faulty) n ≤ f
  few = few_of counter faulty borne

  module _ (t : ℕ) (lo : counter.bound ≤ t) (hi : t + e < length run)
      (begins : AllAre counter faulty (scene run t).states e 0) where
    abbrev counts : CountsFrom counter faulty (without_layer counter run) counter.bound
    counts = counts_of counter is_state layer settling faulty borne first run is

    zero_rest : counts.output t % e ≡ 0
    zero_rest =
        common_rest counter is_state layer faulty first run is front counts e t 0
        (omega (arith, quorum, few)) lo (omega (arith, hi)) begins

    room : counts.output t + e ≤ counter.modulus
    room =
        let v = one_fails (is_in faulty) n (omega (arith, quorum, few)) in
        step_below e (counts.output t) counter.modulus (omega arith) zero_rest whole
        (subst (λ y. y < counter.modulus)
        (shown_at counter is_state layer faulty first run is front counts t v.0 lo
        (omega (arith, hi)) v.1 v.2)
        (output_below t v.0 (omega (arith, hi)) v.1))

    long : length (without_layer counter run) ≡ length run
    long = length-map run (λ (s : Scene Kept). map (cut counter.depth) s.states)

    -- within the entry the outputs go on without wrapping
    exact : (x : ℕ) → x < e → counts.output (t + x) ≡ counts.output t + x
    exact zero lt = ap counts.output (add-zero t) ∙ sym (add-zero (counts.output t))
    exact (suc x) lt =
        let s : t + suc x ≡ t + x + 1 = omega arith in
        let r : counts.output t + x + 1 ≡ counts.output t + suc x = omega arith in
        ap counts.output s
        ∙ (counts.grows (t + x) (omega arith) (omega (arith, long))
        ∙ (ap (λ y. (y + 1) % counter.modulus) (exact x (omega arith))
        ∙ (mod-eq_of_lt (let h = room in omega (arith, h)) ∙ r)))

    rest : (x v : ℕ) → x < e → v < n → is_in faulty v ≡ false
        → counter.shows v (state_of (scene run (t + x)).states v) % e ≡ x
    rest x v lt vlt ok =
        shows_rest counter is_state layer faulty first run is front counts e t x v whole lo
        zero_rest lt (omega arith) vlt ok

    quiet : (x v : ℕ) → x ≤ slot_length f → v < n → is_in faulty v ≡ false
        → log (scene run (t + x)) v ≡ log (scene run t) v
    quiet zero v le vlt ok = ap (λ y. log (scene run y) v) (add-zero t)
    quiet (suc x) v le vlt ok =
        let s : t + suc x ≡ t + x + 1 = omega arith in
        let steps = node_steps counter is_state layer faulty first run is (t + x) v (omega arith)
        vlt ok in
        let o : ℕ = counter.shows v (state_of steps.heard v) in
        let here : o % e ≡ x =
        ap (λ st. counter.shows v st % e) (steps.honest v vlt ok) ∙ rest x v (omega arith) vlt ok in
        ap (λ y. log (scene run y) v) s
        ∙ log_is counter layer keep logs says first logging (first + (t + x)) v (scene run (t + x))
        (scene run (t + x + 1)) steps.heard steps.steps
        ∙ keeps_log f keep o x (agreement_after n f d v o steps.heard) (log (scene run (t + x)) v)
        here (omega arith)
        ∙ quiet x v (omega arith) vlt ok

    slot : SlotAgrees counter layer 0 faulty first run (t + 1)
    slot =
        slots_agree_over layer counter is_state settling logging.same e 1 0
        (has_slots counter layer keep logs says first logging) whole faulty borne first run is t lo
        (omega (arith, hi)) begins

    abbrev entry : Entry
    entry = record { slot = counts.output t; value = slot.value }

    puts : (v : ℕ) → v < n → is_in faulty v ≡ false
        → log (scene run (t + e)) v ≡ take keep (entry ∷ log (scene run t) v)
    puts v vlt ok =
        let q : ℕ = slot_length f in
        let there : t + 1 + (3 * f + 2) ≡ t + q = omega arith in
        let end : t + q + 1 ≡ t + e = omega arith in
        let last =
        subst (λ r. TakesLast counter layer 0 first run r v slot.value) there (slot.last v vlt ok)
        in
        let o : ℕ = counter.shows v (state_of last.heard v) in
        let shows : o ≡ counts.output t + q =
        ap (counter.shows v) last.own
        ∙ shown_at counter is_state layer faulty first run is front counts (t + q) v (omega arith)
        (omega arith) vlt
        ok
        ∙ exact q (omega arith) in
        let here : o % e ≡ q =
        ap (λ st. counter.shows v st % e) last.own ∙ rest q v (omega arith) vlt ok in
        let number : o - q ≡ counts.output t = omega (arith, shows) in
        let result : agreement_after n f d v o last.heard ≡ locked_at slot.value =
        agrees_on n f d v o (3 * f + 2) last.heard (omega (arith, here))
        ∙ ap (λ i. agreed_in_turn n f i v (3 * f + 2) last.heard) (sym (add-zero d))
        ∙ last.locked in
        let before : List Entry = log (scene run (t + q)) v in
        ap (λ y. log (scene run y) v) (sym end)
        ∙ log_is counter layer keep logs says first logging (first + (t + q)) v (scene run (t + q))
        (scene run (t + q + 1)) last.heard last.steps
        ∙ puts_entry f keep o (agreement_after n f d v o last.heard) before (omega (arith, here))
        ∙ ap (λ (r : Reg). take keep (record { slot = o - q; value = unwrap_or r.a 0 } ∷ before))
        result
        ∙ ap (λ k. take keep (record { slot = k; value = slot.value } ∷ before)) number
        ∙ ap (λ newest. take keep (entry ∷ newest)) (quiet q v (omega arith) vlt ok)

    -- the command register of a correct node holds what it commands for the slot
    commands_hold : counter.bound < t → (u : ℕ) → u < n → is_in faulty u ≡ false
        → (register_at (d + 1) (state_of (scene run t).states u)).a
        ≡ Some (says t u (counts.output t))
    commands_hold after u ult ok =
        let b : ℕ = t - 1 in
        let s : b + 1 ≡ t = omega arith in
        let steps = node_steps counter is_state layer faulty first run is b u (omega arith) ult ok
        in
        let o : ℕ = counter.shows u (state_of steps.heard u) in
        let grown : (o + 1) % counter.modulus ≡ counts.output t =
        ap (λ y. (y + 1) % counter.modulus)
        (ap (counter.shows u) (steps.honest u ult ok)
        ∙ shown_at counter is_state layer faulty first run is front counts b u (omega arith)
        (omega arith) ult ok)
        ∙ sym (counts.grows b (omega arith) (omega (arith, long)))
        ∙ ap counts.output s in
        ap (λ y. (register_at (d + 1) (state_of (scene run y).states u)).a) (sym s)
        ∙ ap (λ (r : Reg). r.a)
        (command_is counter layer keep logs says first logging (first + b) u (scene run b)
        (scene run (b + 1)) steps.heard steps.steps (front.deep u steps.heard ult))
        ∙ ap Some (logging.meant t u o (counts.output t) (kept_of layer (scene run b) u) grown)

    -- the correct nodes begin the slot with what its owner commands
    begins_with : counter.bound < t → is_in faulty (owner_at n f (counts.output t)) ≡ false
        → (v : ℕ) → v < n → is_in faulty v ≡ false
        → (register_at (d + 0) (state_of (scene run (t + 1)).states v)).a
        ≡ Some (says t (owner_at n f (counts.output t)) (counts.output t))
    begins_with after correct v vlt ok =
        let owner : ℕ = owner_at n f (counts.output t) in
        let inside : owner < n = mod-lt (counts.output t / e) (omega (arith, quorum)) in
        let steps = node_steps counter is_state layer faulty first run is t v (omega arith) vlt ok
        in
        let o : ℕ = counter.shows v (state_of steps.heard v) in
        let same : o ≡ counts.output t =
        ap (counter.shows v) (steps.honest v vlt ok)
        ∙ shown_at counter is_state layer faulty first run is front counts t v lo (omega arith) vlt
        ok in
        ap (λ i. (register_at i (state_of (scene run (t + 1)).states v)).a) (add-zero d)
        ∙ ap (λ (r : Reg). r.a)
        (agreement_is counter layer keep logs says first logging (first + t) v (scene run t)
        (scene run (t + 1)) steps.heard steps.steps (front.deep v steps.heard vlt)
        ∙ hears_owner n f d v o steps.heard (ap (λ y. y % e) same ∙ zero_rest))
        ∙ ap (λ y. Some (unwrap_or
        (register_at (d + 1) (state_of steps.heard (owner_at n f y))).a 0)) same
        ∙ ap (λ st. Some (unwrap_or (register_at (d + 1) st).a 0))
        (steps.honest owner inside correct)
        ∙ ap (λ a. Some (unwrap_or a 0)) (commands_hold after owner inside correct)

    pub puts_one : PutsOneOver counter keep log says faulty run t
    puts_one = record {
      entry = entry;
      is = record {
        slot =
            λ v vlt ok. shown_at counter is_state layer faulty first run is front counts t v lo
            (omega arith) vlt ok;
        quiet = quiet;
        puts = puts;
        commanded = λ after correct.
            slot.valid (says t (owner_at n f (counts.output t)) (counts.output t))
            (begins_with after correct);
      };
    }

-- the layer of nodes that take their commands in turn
pub takes_turns : (counter : Meaning) (said : LogContent) (first : ℕ)
    → IsLogging counter (log_layer_over (numbers_in counter) said) said.keep (λ log. log)
    (commands_in_turn_over counter said) first
takes_turns counter said first = record {
  same = record { nodes = refl; modulus = refl; depth = refl };
  extra = refl;
  command = λ v log output.
      command_at counter.nodes counter.faults said.commands v ((output + 1) % counter.modulus);
  begun = λ at log. refl;
  registers = λ v output log heard. refl;
  kept = λ v output log heard. refl;
  meant = λ t v output slot log is.
      ap (command_at counter.nodes counter.faults said.commands v) is;
}

pub every_slot_puts_one_over : (counter : Meaning) (is_state : (v : ℕ) → State → Type 0)
    → EverySlotPutsOneOver counter is_state
every_slot_puts_one_over counter is_state settling multiple said faulty borne first run is =
    puts_one counter is_state settling multiple (log_layer_over (numbers_in counter) said) said.keep
    (λ log. log) (commands_in_turn_over counter said) first (takes_turns counter said first) faulty
    borne run is

pub every_slot_puts_one : EverySlotPutsOne
every_slot_puts_one plan accepted multiple said faulty borne =
    every_slot_puts_one_over (plan_meaning plan) (IsState plan) (plans_settle plan accepted)
    multiple said faulty borne
