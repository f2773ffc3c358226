-- What a correct node hears in a round of a run with a layer, and what correct nodes show once the
-- counter's bound is past.
use Rattle.std.proofs.Common.{◌≡◌, ℕ, zero, suc, ◌+◌, ◌-◌, ◌%◌, ◌<◌, ◌≤◌, inl, inr, Bool, true}
use Rattle.std.proofs.Common.{false, cond, eqb, not, ◌||◌, List, [], length, map, get_or, All, sym}
use Rattle.std.proofs.Common.{ap, ◌∙◌, subst, arith}
use Rattle.std.specs.List.{range_with_len}
use Rattle.std.proofs.Math.Bool.{or-true}
use Rattle.std.proofs.Math.Nat.{mod-mod_of_dvd, mod-add-mod, mod-eq_of_lt, mod-lt, add-zero}
use Rattle.std.proofs.lemmas.Nat.Gcd.{dvd_of_mod-eq-zero}
use Rattle.std.proofs.lemmas.Bool.{cases_lt}
use Rattle.std.proofs.lemmas.List.{length-map}
use Rattle.std.proofs.lemmas.List.Elements.{All-get_or}
use Rattle.std.proofs.lemmas.List.FromFn.{length-map-range_with_len, get_or-map-range_with_len}
use Rattle.sync_types.specs.States.{State, zero_state}
use Rattle.counting.specs.Places.{places}
use Rattle.counting.proofs.Places.{one_fails}
use Rattle.construction.specs.Steps.{state_of}
use Rattle.construction.specs.Runs.{is_in, heard_of, heard_by}
use Rattle.plan_laws.proofs.Ranges.{state_of-cut}
use Rattle.counter_core.specs.Meanings.{Meaning, cut}
use Rattle.counter_core.specs.Overlays.{Layer}
use Rattle.counter_core.proofs.StateLists.{choice_is}
use Rattle.construction.specs.Machines.{CountsFrom}
use Rattle.layer_laws.specs.Counters.{HasFront}
use Rattle.layer_laws.specs.Scenes.{Scene}
use Rattle.layer_laws.specs.CounterLayers.{IsLayerState, IsLayerConfiguration, IsLayerTold}
use Rattle.layer_laws.specs.CounterLayers.{LayerRun}
use Rattle.layer_laws.specs.CounterLayers.{NodeSteps, scene, without_layer}
use Rattle.layer_laws.specs.CounterSlots.{AllAre}
use Rattle.layer_laws.proofs.CounterCuts.{configuration_at, cut_at}

-- a remainder goes on with the number, past a modulus that is a multiple
next_rest : (c period o x : ℕ) → c % period ≡ 0 → o % period ≡ x → x + 1 < period
    → (o + 1) % c % period ≡ x + 1
next_rest c period o x whole rest lt =
    mod-mod_of_dvd period (o + 1) (dvd_of_mod-eq-zero period whole)
    ∙ (sym (mod-add-mod o period 1) ∙ (ap (λ y. (y + 1) % period) rest ∙ mod-eq_of_lt lt))

-- before a multiple there is the last remainder
last_rest : (c period o : ℕ) → 0 < period → c % period ≡ 0 → (o + 1) % c % period ≡ 0
    → o % period + 1 ≡ period
last_rest c period o some whole rest =
    let here : (o % period + 1) % period ≡ 0 = mod-add-mod o period 1
    ∙ (sym (mod-mod_of_dvd period (o + 1) (dvd_of_mod-eq-zero period whole)) ∙ rest) in
    elim (cases_lt (o % period + 1) period) [
      | inl lt ↦ absurd (let same = sym (mod-eq_of_lt lt) ∙ here in omega (arith, same))
      | inr le ↦ (let below = mod-lt o some in omega (arith, below, le))
    ]

module _ {Kept : Type 0} (counter : Meaning) (is_state : (v : ℕ) → State → Type 0)
    (layer : Layer Kept) (faulty : List ℕ) (first : ℕ)
    (run : List (Scene Kept)) (is : LayerRun counter is_state layer faulty first run) where
  pub node_steps : (t v : ℕ) → t + 1 < length run → v < counter.nodes → is_in faulty v ≡ false
      → NodeSteps counter is_state layer faulty first run t v
  node_steps t v lt vlt correct =
      let n : ℕ = counter.nodes in
      let next = is.rounds t lt in
      let old : List State = (scene run t).states in
      let own : IsLayerConfiguration counter is_state layer old =
      configuration_at counter is_state layer faulty first run is t (omega arith) in
      let f : ℕ → State = heard_of faulty old next.lies v in
      record {
        heard = heard_by n faulty old next.lies v;
        size = length-map-range_with_len f 0 n;
        states = λ u ult.
            let row : List State = get_or next.lies u [] in
            let told : IsLayerTold counter is_state layer u row = next.round.table.rows u ult in
            subst (IsLayerState counter is_state layer u)
            (sym (get_or-map-range_with_len f 0 n u u (zero_state 0) ult (omega arith)))
            (choice_is (IsLayerState counter is_state layer u) (eqb u v || not (is_in faulty u))
            (state_of old u) (state_of row v)
            (own.states u ult)
            (All-get_or (IsLayerState counter is_state layer u) row v (zero_state 0)
            (let s = told.size in omega (arith, vlt, s)) told.states));
        honest = λ u ult uok. get_or-map-range_with_len f 0 n u u (zero_state 0) ult (omega arith)
            ∙
            (ap
            (λ b. cond (eqb u v || not b) (state_of old u)
            (state_of (get_or next.lies u []) v))
            uok
            ∙ ap (λ b. cond b (state_of old u) (state_of (get_or next.lies u []) v))
            (or-true (eqb u v)));
        steps = next.round.steps v vlt correct;
      }

  -- ---- from the bound on the outputs count

  module _ (front : HasFront counter)
      (counts : CountsFrom counter faulty (without_layer counter run) counter.bound) where
    pub shown_at : (t v : ℕ) → counter.bound ≤ t → t < length run → v < counter.nodes
        → is_in faulty v ≡ false
        → counter.shows v (state_of (scene run t).states v) ≡ counts.output t
    shown_at t v lo lt vlt correct =
        let long : length (without_layer counter run) ≡ length run = length_is in
        sym
        (front.shows v (state_of (scene run t).states v) vlt)
        ∙
        (ap (counter.shows v)
        (sym
        (ap (λ (c : List State). state_of c v)
        (cut_at counter is_state layer faulty first run is t lt)
        ∙ state_of-cut counter.depth (scene run t).states v))
        ∙ counts.shows t lo (omega (arith, lt, long)) v vlt correct)
      where
        length_is : length (without_layer counter run) ≡ length run
        length_is = length-map run (λ (s : Scene Kept). map (cut counter.depth) s.states)

    -- in a slot of a period that divides the modulus, each later output has the next remainder
    pub rest_at : (period t : ℕ) → counter.modulus % period ≡ 0 → counter.bound ≤ t
        → counts.output t % period ≡ 0
        → (x : ℕ) → x < period → t + x < length run → counts.output (t + x) % period ≡ x
    rest_at period t whole lo begins zero xlt lt =
        ap (λ y. counts.output y % period) (add-zero t) ∙ begins
    rest_at period t whole lo begins (suc x) xlt lt =
        let e : t + suc x ≡ t + x + 1 = omega arith in
        let s : x + 1 ≡ suc x = omega arith in
        let long : length (without_layer counter run)
        ≡ length run = length-map run
        (λ (s : Scene Kept). map (cut counter.depth) s.states) in
        ap (λ y. counts.output y % period) e
        ∙ (ap (λ y. y % period) (counts.grows (t + x) (omega arith) (omega (arith, lt, long)))
        ∙
        (next_rest counter.modulus period (counts.output (t + x)) x whole
        (rest_at period t whole lo begins x (omega arith) (omega arith)) (omega arith)
        ∙ s))

    -- and the output before the slot has the last one
    pub rest_before : (period t : ℕ) → 0 < period → counter.modulus % period ≡ 0
        → counter.bound < t → t < length run → counts.output t % period ≡ 0
        → counts.output (t - 1) % period + 1 ≡ period
    rest_before period t some whole lo lt begins =
        let e : t - 1 + 1 ≡ t = omega arith in
        let long : length (without_layer counter run)
        ≡ length run = length-map run
        (λ (s : Scene Kept). map (cut counter.depth) s.states) in
        last_rest counter.modulus period (counts.output (t - 1)) some whole
        (ap (λ y. y % period) (sym (counts.grows (t - 1) (omega arith) (omega (arith, lt, long))))
        ∙ (ap (λ y. counts.output y % period) e ∙ begins))

    -- the remainder of the output of a correct node
    pub shows_rest : (period t x v : ℕ) → counter.modulus % period ≡ 0 → counter.bound ≤ t
        → counts.output t % period ≡ 0 → x < period → t + x < length run
        → v < counter.nodes → is_in faulty v ≡ false
        → counter.shows v (state_of (scene run (t + x)).states v) % period ≡ x
    shows_rest period t x v whole lo begins xlt lt vlt correct =
        ap (λ y. y % period) (shown_at (t + x) v (omega arith) lt vlt correct)
        ∙ rest_at period t whole lo begins x xlt lt

    -- if the outputs of all correct nodes have a remainder, the common output has it
    pub common_rest : (period t rest : ℕ)
        → places (is_in faulty) counter.nodes < counter.nodes → counter.bound ≤ t
        → t < length run → AllAre counter faulty (scene run t).states period rest
        → counts.output t % period ≡ rest
    common_rest period t rest few lo lt all =
        let v = one_fails (is_in faulty) counter.nodes few in
        ap (λ y. y % period) (sym (shown_at t v.0 lo lt v.1 v.2)) ∙ all v.0 v.1 v.2
