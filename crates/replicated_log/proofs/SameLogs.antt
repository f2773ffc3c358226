-- From a slot at the bound or later on, the correct nodes put the same entries.
use Rattle.std.proofs.Common.{◌≡◌, ℕ, zero, suc, ◌+◌, ◌*◌, ◌/◌, ◌%◌, ◌<◌, ◌≤◌, inl, inr, false}
use Rattle.std.proofs.Common.{List, [], ◌∷◌, ◌++◌, length, take, map, refl, sym, ap, ◌∙◌, subst}
use Rattle.std.proofs.Common.{arith}
use Rattle.std.proofs.Math.Nat.{add-zero, mod-mod_of_dvd, mod-add-mod, mod-lt, mod-eq_of_lt}
use Rattle.std.proofs.Math.Nat.{mul-mod_left, div-add-mod, div-eq_of_lt-le}
use Rattle.std.proofs.Math.Nat.{zero-div}
use Rattle.std.proofs.lemmas.Nat.Gcd.{dvd_of_mod-eq-zero, mod-eq-zero_of_dvd, dvd_trans}
use Rattle.std.proofs.lemmas.Bool.{cases_eq}
use Rattle.std.proofs.lemmas.List.{length-map, take-take}
use Rattle.sync_types.specs.States.{State}
use Rattle.construction.specs.Steps.{state_of}
use Rattle.construction.specs.Runs.{is_in, IsState}
use Rattle.plan_laws.specs.PlanMeaning.{plan_meaning}
use Rattle.counter_core.specs.Meanings.{Meaning, cut}
use Rattle.counter_core.specs.Overlays.{Layer}
use Rattle.construction.specs.Machines.{CountsFrom}
use Rattle.layer_laws.specs.Counters.{Bears, HasFront, IsSettling}
use Rattle.layer_laws.specs.Numbers.{numbers_in}
use Rattle.layer_laws.specs.Scenes.{Scene, kept_of}
use Rattle.layer_laws.specs.CounterLayers.{LayerRun, scene, without_layer}
use Rattle.layer_laws.specs.CounterSlots.{slot_length, AllAre}
use Rattle.layer_laws.proofs.Settling.{few_of}
use Rattle.layer_laws.proofs.CounterSteps.{node_steps, common_rest, shown_at}
use Rattle.layer_laws.proofs.CounterSlots.{counts_of}
use Rattle.layer_laws.proofs.PlanCounters.{plans_settle}
use Rattle.replicated_log.specs.declared.entries.Entry.{Entry}
use Rattle.replicated_log.specs.EntryLength.{entry_length}
use Rattle.replicated_log.specs.Logs.{agreement_after, log_layer_over}
use Rattle.replicated_log.specs.PutEntries.{PutsOver, HasEntriesOver, SameSinceOver}
use Rattle.replicated_log.specs.PutEntries.{commands_in_turn_over, LogsAreOneOver, LogsAreOne}
use Rattle.replicated_log.proofs.Logging.{IsLogging, keeps_log, log_is}
use Rattle.replicated_log.proofs.SlotEntries.{puts_one, takes_turns}

-- the prefix of a list with one more before it
one_more : (keep : ℕ) (entry : Entry) (a b : List Entry) → take keep a ≡ take keep b
    → take keep (entry ∷ a) ≡ take keep (entry ∷ b)
one_more zero entry a b same = refl
one_more (suc keep) entry a b same =
    ap (λ l. entry ∷ l) (sym (shorter a) ∙ (ap (take keep) same ∙ shorter b)) where
      shorter : (l : List Entry) → take keep (take (suc keep) l) ≡ take keep l
      shorter l = take-take keep (suc keep) l (omega arith)

-- ---- how many slots have ended

none_ended : (e : ℕ) → 0 < e → 0 / e ≡ 0
none_ended e some = zero-div e

one_ends : (x e : ℕ) → x % e + 1 ≡ e → suc x / e ≡ suc (x / e)
one_ends x e end =
    let parts = div-add-mod x e in
    div-eq_of_lt-le e (omega (arith, parts, end)) (omega (arith, parts, end))

none_ends : (x e : ℕ) → x % e < e → (x % e + 1 ≡ e → ⊥) → suc x / e ≡ x / e
none_ends x e short other =
    let parts = div-add-mod x e in
    div-eq_of_lt-le e (omega (arith, parts, short, other)) (omega (arith, parts, short, other))

module _ {Kept : Type 0} (counter : Meaning) (is_state : (v : ℕ) → State → Type 0)
    (settling : IsSettling counter is_state) (multiple : HasEntriesOver counter)
    (layer : Layer Kept) (keep : ℕ) (logs : Kept → List Entry) (says : (t v slot : ℕ) → ℕ)
    (first : ℕ) (logging : IsLogging counter layer keep logs says first) (faulty : List ℕ)
    (borne : Bears counter faulty) (run : List (Scene Kept))
    (is : LayerRun counter is_state layer faulty first run) (t : ℕ) (lo : counter.bound ≤ t)
    (inside : t < length run)
    (begins : AllAre counter faulty (scene run t).states (entry_length counter.faults) 0) where
  abbrev e : ℕ
  e = entry_length counter.faults

  abbrev log : Scene Kept → (v : ℕ) → List Entry
  log s v = logs (kept_of layer s v)

  abbrev Same : (x : ℕ) → Type 0
  Same x = SameSinceOver counter keep log says faulty run t x

  front : HasFront counter
  front = settling.front

  abbrev counts : CountsFrom counter faulty (without_layer counter run) counter.bound
  counts = counts_of counter is_state layer settling faulty borne first run is

  whole : counter.modulus % e ≡ 0
  whole = mod-eq-zero_of_dvd e
      (dvd_trans e (dvd_of_mod-eq-zero e (mul-mod_left counter.nodes e))
      (dvd_of_mod-eq-zero (counter.nodes * e) multiple))

  -- the remainder of each later output
  rest : (x : ℕ) → t + x < length run → counts.output (t + x) % e ≡ x % e
  rest zero lt =
      let few = few_of counter faulty borne in
      let quorum = settling.quorum in
      ap (λ y. counts.output y % e) (add-zero t)
      ∙ (common_rest counter is_state layer faulty first run is front counts e t 0
      (omega (arith, quorum, few)) lo inside begins
      ∙ sym (mod-eq_of_lt (omega arith)))
  rest (suc x) lt =
      let s : t + suc x ≡ t + x + 1 = omega arith in
      let next : x + 1 ≡ suc x = omega arith in
      let long : length (without_layer counter run) ≡ length run =
      length-map run (λ (s : Scene Kept). map (cut counter.depth) s.states) in
      ap (λ y. counts.output y % e) s
      ∙ (ap (λ y. y % e) (counts.grows (t + x) (omega arith) (omega (arith, lt, long)))
      ∙ (mod-mod_of_dvd e (counts.output (t + x) + 1) (dvd_of_mod-eq-zero e whole)
      ∙ (sym (mod-add-mod (counts.output (t + x)) e 1)
      ∙ (ap (λ y. (y + 1) % e) (rest x (omega arith))
      ∙ (mod-add-mod x e 1 ∙ ap (λ y. y % e) next)))))

  node_rest : (x v : ℕ) → t + x < length run → v < counter.nodes → is_in faulty v ≡ false
      → counter.shows v (state_of (scene run (t + x)).states v) % e ≡ x % e
  node_rest x v lt vlt ok =
      ap (λ y. y % e)
      (shown_at counter is_state layer faulty first run is front counts (t + x) v (omega arith) lt
      vlt ok)
      ∙ rest x lt

  -- if a slot ends in round t + x, it puts one entry more
  more : (x : ℕ) → t + suc x < length run → x % e + 1 ≡ e → Same x → Same (suc x)
  more x lt end before =
      let q : ℕ = slot_length counter.faults in
      let start : ℕ = t + x / e * e in
      let parts = div-add-mod x e in
      let here : start + q ≡ t + x = omega (arith, parts, end) in
      let there : start + e ≡ t + suc x = omega (arith, parts, end) in
      let number : t + length before.put * e ≡ start = ap (λ m. t + m * e) before.many in
      let begun : (x / e * e) % e ≡ 0 = mul-mod_left (x / e) e in
      let one =
      puts_one counter is_state settling multiple layer keep logs says first logging faulty borne
      run is start
      (omega (arith, lo)) (omega (arith, there, lt))
      (λ v vlt ok. node_rest (x / e * e) v (omega (arith, here, lt)) vlt ok ∙ begun) in
      record {
        put = one.entry ∷ before.put;
        many = ap suc before.many ∙ sym (one_ends x e end);
        entries = (
          subst (λ s. PutsOver counter keep log says faulty run s one.entry) (sym number) one.is,
          before.entries,
        );
        each = λ v vlt ok.
            ap (λ y. take keep (log (scene run y) v)) (sym there)
            ∙ (ap (take keep) (one.is.puts v vlt ok
            ∙ ap (λ l. take keep (one.entry ∷ l)) (sym (one.is.quiet q v (omega arith) vlt ok)
            ∙ ap (λ y. log (scene run y) v) here))
            ∙ (take-take keep keep (one.entry ∷ log (scene run (t + x)) v) (omega arith)
            ∙ one_more keep one.entry (log (scene run (t + x)) v)
            (before.put ++ log (scene run t) v) (before.each v vlt ok)));
      }

  -- else none is put
  quiet : (x : ℕ) → t + suc x < length run → (x % e + 1 ≡ e → ⊥) → Same x → Same (suc x)
  quiet x lt other before =
      let s : t + suc x ≡ t + x + 1 = omega arith in
      let below : x % e < e = mod-lt x (omega arith) in
      record {
        put = before.put;
        many = before.many ∙ sym (none_ends x e below other);
        entries = before.entries;
        each = λ v vlt ok.
            let steps =
            node_steps counter is_state layer faulty first run is (t + x) v (omega arith) vlt ok in
            let o : ℕ = counter.shows v (state_of steps.heard v) in
            let here : o % e ≡ x % e =
            ap (λ st. counter.shows v st % e) (steps.honest v vlt ok)
            ∙ node_rest x v (omega arith) vlt ok in
            ap (λ y. take keep (log (scene run y) v)) s
            ∙ ap (take keep)
            (log_is counter layer keep logs says first logging (first + (t + x)) v
            (scene run (t + x))
            (scene run (t + x + 1)) steps.heard steps.steps
            ∙ keeps_log counter.faults keep o (x % e)
            (agreement_after counter.nodes counter.faults counter.depth v o
            steps.heard) (log (scene run (t + x)) v) here (omega (arith, below, other)))
            ∙ before.each v vlt ok;
      }

  pub same_since : (x : ℕ) → t + x < length run → Same x
  same_since zero lt = record {
    put = [];
    many = sym (none_ended e (omega arith));
    entries = tt;
    each = λ v vlt ok. ap (λ y. take keep (log (scene run y) v)) (add-zero t);
  }
  same_since (suc x) lt = elim (cases_eq (x % e + 1) e) [
    | inl end ↦ more x lt end (same_since x (omega arith))
    | inr other ↦ quiet x lt other (same_since x (omega arith))
  ]

pub logs_are_one_over : (counter : Meaning) (is_state : (v : ℕ) → State → Type 0)
    → LogsAreOneOver counter is_state
logs_are_one_over counter is_state settling multiple said faulty borne first run is =
    same_since counter is_state settling multiple (log_layer_over (numbers_in counter) said)
    said.keep (λ log. log) (commands_in_turn_over counter said) first
    (takes_turns counter said first) faulty borne run is

pub logs_are_one : LogsAreOne
logs_are_one plan accepted multiple said faulty borne =
    logs_are_one_over (plan_meaning plan) (IsState plan) (plans_settle plan accepted) multiple said
    faulty borne
