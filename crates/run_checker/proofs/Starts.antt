-- Start lines, as they are declared and as they are tested one after the other.
use Rattle.std.proofs.Common.{inl, inr, ⊎_elim, ◌≡◌, ℕ, zero, suc, ◌+◌, ◌-◌, ◌<◌, ◌≤◌, Bool, true}
use Rattle.std.proofs.Common.{false, eqb, ltb, leb, not, ◌&&◌, ◌||◌, List, [], ◌∷◌, length, map}
use Rattle.std.proofs.Common.{get_or, refl, sym, ap, subst, ◌∙◌, arith}
use Rattle.std.specs.Prelude.{All}
use Rattle.std.specs.List.{range_with_len}
use Rattle.std.specs.List.Sorted.{IsStrictlyIncreasing}
use Rattle.std.proofs.lemmas.Bool.{and_parts, and_from, or_cases, cases_Bool, cases_order}
use Rattle.std.proofs.lemmas.Bool.{true≢false, not-true, leb-true, ltb-true, le-leb, lt-ltb}
use Rattle.std.proofs.lemmas.Bool.{eqb-true, eq-eqb}
use Rattle.std.proofs.lemmas.List.Elements.{All-nil, All-cons, All-head, All-tail}
use Rattle.std.proofs.lemmas.List.Folds.{list_any_none, list_any_at}
use Rattle.std.proofs.lemmas.List.FromFn.{length-range_with_len, get_or-range_with_len}
use Rattle.construction.specs.Plans.{Plan, plan_nodes}
use Rattle.construction.specs.Runs.{is_in}
use Rattle.run_checker.specs.NodeFields.{fields_of}
use Rattle.state_codec.specs.Texts.{is_state_text}
use Rattle.adversary_script.proofs.EraLists.{tail_rises}
use Rattle.run_checker.specs.Certificates.{Put}
use Rattle.run_checker.specs.Grammar.{AreStarts}
use Rattle.run_checker.specs.Checking.{needs_state}

module _ (plan : Plan) (unknown faulty : List ℕ) where
  abbrev pub needs : ℕ → Bool
  needs v = is_in unknown v && not (is_in faulty v)

  abbrev pub nodes_of : List Put → List ℕ
  nodes_of puts = map (λ put. put.node) puts

  -- the tests of a start line
  abbrev pub fits : (from : ℕ) → Put → Bool
  fits from put =
      leb from put.node && ltb put.node (plan_nodes plan) && not (is_in faulty put.node)
      && not (needs_state unknown faulty from put.node)
      && is_state_text (fields_of plan put.node) put.digits

  -- the tests of start lines, and that no state is needed after the last
  abbrev pub AllFit : (from : ℕ) → List Put → Type 0
  AllFit from [] = needs_state unknown faulty from (plan_nodes plan) ≡ false
  AllFit from (put ∷ puts) = (fits from put ≡ true) × AllFit (put.node + 1) puts

  pub none_needed : (from to v : ℕ) → needs_state unknown faulty from to ≡ false → from ≤ v → v < to
      → needs v ≡ true → ⊥
  none_needed from to v none low high need =
      true≢false
      (sym
      (list_any_at needs (range_with_len from (to - from)) (v - from) 0
      (omega (arith, length-range_with_len from (to - from)))
      (ap needs (get_or-range_with_len from (to - from) (v - from) 0 (omega arith) ∙ (omega arith))
      ∙ need))
      ∙ none)

  pub no_needs : (from to : ℕ) → ((v : ℕ) → from ≤ v → v < to → needs v ≡ true → ⊥)
      → needs_state unknown faulty from to ≡ false
  no_needs from to none = list_any_none needs (range_with_len from (to - from)) (λ i d l.
      let within : i < to - from = subst (λ m. i < m) (length-range_with_len from (to - from)) l in
      let is : get_or (range_with_len from (to - from)) i d
      ≡ from + i = get_or-range_with_len from (to - from) i d within in
      ap needs is
      ∙ ⊎_elim (λ yes. absurd (none (from + i) (omega arith) (omega arith) yes)) (λ no. no)
      (cases_Bool (needs (from + i))))

  -- ---- from what is declared to the tests

  RisesFrom : ℕ → List Put → Type 0
  RisesFrom from [] = Unit {0}
  RisesFrom from (put ∷ puts) = (from ≤ put.node) × RisesFrom (put.node + 1) puts

  rises : (put : Put) (puts : List Put) → IsStrictlyIncreasing (nodes_of (put ∷ puts))
      → RisesFrom (put.node + 1) puts
  unfolding RisesFrom
  rises put [] h = tt
  rises put (next ∷ puts) h = (
    let x : put.node < next.node = h 0 (omega arith) in
        omega arith,
    rises next puts (tail_rises put.node (nodes_of (next ∷ puts)) h),
  )

  later : (from v : ℕ) (puts : List Put) → RisesFrom from puts → is_in (nodes_of puts) v ≡ true
      → from ≤ v
  unfolding RisesFrom
  later from v [] h e = absurd (true≢false (sym e))
  later from v (put ∷ puts) h e =
      ⊎_elim (λ same. let s : v ≡ put.node = eqb-true v put.node same in omega (arith, h.0))
      (λ more. let x : put.node + 1 ≤ v = later (put.node + 1) v puts h.1 more in
      omega (arith, h.0))
      (or_cases _ _ e)

  fit_from : (from : ℕ) (puts : List Put) → RisesFrom from puts
      → All (λ put. put.node < plan_nodes plan) puts
      → All (λ put. is_in faulty put.node ≡ false) puts
      → ((v : ℕ) → from ≤ v → v < plan_nodes plan → needs v ≡ true → is_in (nodes_of puts) v ≡ true)
      → All (λ put. is_state_text (fields_of plan put.node) put.digits ≡ true) puts
      → AllFit from puts
  unfolding RisesFrom
  fit_from from [] rise below correct needed states =
      no_needs from (plan_nodes plan) (λ v low high need. true≢false (sym (needed v low high need)))
  fit_from from (put ∷ puts) rise below correct needed states =
      let here : put.node
      < plan_nodes plan = All-head (λ p. p.node < plan_nodes plan) put puts below in
      let free : is_in faulty put.node
      ≡ false = All-head (λ p. is_in faulty p.node ≡ false) put puts correct in
      let gap : needs_state unknown faulty from put.node
      ≡ false = no_needs from put.node (λ v low high need.
      let x : put.node
      ≤ v = later put.node v (put ∷ puts) (omega arith, rise.1)
      (needed v low (omega arith) need) in
      omega arith) in (
        and_from _ _
            (and_from _ _
            (and_from _ _ (and_from _ _ (le-leb _ _ rise.0) (lt-ltb _ _ here)) (ap not free))
            (ap not gap))
            (All-head (λ p. is_state_text (fields_of plan p.node) p.digits ≡ true) put puts states),
        fit_from (put.node + 1) puts rise.1
            (All-tail (λ p. p.node < plan_nodes plan) put puts below)
            (All-tail (λ p. is_in faulty p.node ≡ false) put puts correct)
            (λ v low high need. ⊎_elim
            (λ same. absurd (let s : v ≡ put.node = eqb-true v put.node same in omega arith))
            (λ more. more) (or_cases _ _ (needed v (omega (arith, rise.0)) high need)))
            (All-tail (λ p. is_state_text (fields_of plan p.node) p.digits ≡ true) put puts states),
      )

  from_zero : (puts : List Put) → IsStrictlyIncreasing (nodes_of puts) → RisesFrom 0 puts
  unfolding RisesFrom
  from_zero [] h = tt
  from_zero (put ∷ puts) h = (omega arith, rises put puts h)

  pub starts_fit : (puts : List Put) → AreStarts plan unknown faulty puts → AllFit 0 puts
  starts_fit puts s =
      fit_from 0 puts (from_zero puts s.rising) s.nodes s.correct
      (λ v low high need. let p = and_parts _ _ need in s.needed v high p.0 (not-true _ p.1))
      s.states

  -- ---- and back

  record Declared (from : ℕ) (puts : List Put) : Type 0 where
    rise : RisesFrom from puts
    nodes : All (λ put. put.node < plan_nodes plan) puts
    correct : All (λ put. is_in faulty put.node ≡ false) puts
    needed : (v : ℕ) → from ≤ v → v < plan_nodes plan → needs v ≡ true
        → is_in (nodes_of puts) v ≡ true
    states : All (λ put. is_state_text (fields_of plan put.node) put.digits ≡ true) puts

  or_left : (x y : Bool) → x ≡ true → (x || y) ≡ true
  or_left true y e = refl
  or_left false y e = absurd cc

  or_right : (x y : Bool) → y ≡ true → (x || y) ≡ true
  or_right true y e = refl
  or_right false y e = e

  declared : (from : ℕ) (puts : List Put) → AllFit from puts → Declared from puts
  unfolding RisesFrom
  declared from [] h =
      record {
        rise = tt;
        nodes = All-nil (λ p. p.node < plan_nodes plan);
        correct = All-nil (λ p. is_in faulty p.node ≡ false);
        needed = λ v low high need. absurd (none_needed from (plan_nodes plan) v h low high need);
        states = All-nil (λ p. is_state_text (fields_of plan p.node) p.digits ≡ true);
      }
  declared from (put ∷ puts) h =
      let a = and_parts _ _ h.0 in
      let b = and_parts _ _ a.0 in
      let c = and_parts _ _ b.0 in
      let d = and_parts _ _ c.0 in
      let rest = declared (put.node + 1) puts h.1 in
      record {
        rise = (leb-true _ _ d.0, rest.rise);
        nodes = All-cons (λ p. p.node < plan_nodes plan) put puts (ltb-true _ _ d.1) rest.nodes;
        correct =
            All-cons (λ p. is_in faulty p.node ≡ false) put puts (not-true _ c.1) rest.correct;
        needed = λ v low high need. elim (cases_order v put.node) [
          | inl same ↦ or_left _ _ (eq-eqb _ _ same)
          | inr (inl less) ↦ absurd (none_needed from put.node v (not-true _ b.1) low less need)
          | inr (inr more) ↦ or_right (eqb v put.node) _ (rest.needed v (omega arith) high need)
        ];
        states =
            All-cons (λ p. is_state_text (fields_of plan p.node) p.digits ≡ true) put puts a.1
            rest.states;
      }

  increasing : (from : ℕ) (puts : List Put) → RisesFrom from puts → (k : ℕ)
      → k + 1 < length (nodes_of puts)
      → get_or (nodes_of puts) k 0 < get_or (nodes_of puts) (k + 1) 0
  unfolding RisesFrom
  increasing from [] h k l = absurd (omega arith)
  increasing from (put ∷ []) h k l = absurd (omega arith)
  increasing from (put ∷ next ∷ puts) h zero l =
      let x : put.node + 1 ≤ next.node = h.1.0 in omega arith
  increasing from (put ∷ next ∷ puts) h (suc j) l =
      let e : suc j + 1 ≡ suc (j + 1) = omega arith in
      subst
      (λ m. get_or (nodes_of (put ∷ next ∷ puts)) (suc j) 0
      < get_or (nodes_of (put ∷ next ∷ puts)) m 0)
      (sym e) (increasing (put.node + 1) (next ∷ puts) h.1 j (omega arith))

  pub starts_declared : (puts : List Put) → AllFit 0 puts → AreStarts plan unknown faulty puts
  starts_declared puts h =
      let d = declared 0 puts h in
      record {
        rising = increasing 0 puts d.rise;
        nodes = d.nodes;
        correct = d.correct;
        needed = λ v high is free. d.needed v (omega arith) high
            (and_from _ _ is (ap not free));
        states = d.states;
      }
