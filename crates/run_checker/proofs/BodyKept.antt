-- What is kept of a certificate's configuration holds after each line.
use Rattle.std.proofs.Common.{◌≡◌, ℕ, zero, suc, ◌+◌, ◌-◌, ◌<◌, ◌≤◌, Bool, true, false, cond, not}
use Rattle.std.proofs.Common.{◌&&◌, List, [], ◌∷◌, ◌++◌, length, map, replicate, All, drop, eqb}
use Rattle.std.proofs.Common.{get_or, refl, sym, ap, ◌∙◌, subst, arith}
use Rattle.std.specs.List.{range_with_len}
use Rattle.std.proofs.lemmas.List.Elements.{All-push, All-nil, All-cons, All-head, All-tail}
use Rattle.sync_types.specs.States.{State, zero_state}
use Rattle.sync_types.specs.FaultSets.{FaultIds, is_in}
use Rattle.run_checker.specs.Grammar.{pairs_of}
use Rattle.construction.specs.Plans.{Plan, plan_nodes, plan_depth}
use Rattle.plan_numbers.specs.Premises.{IsAccepted}
use Rattle.plan_laws.specs.PlanMeaning.{IsInRange}
use Rattle.plan_laws.proofs.PlanCounter.{positive}
use Rattle.plan_laws.proofs.Ranges.{range_of_state}
use Rattle.state_codec.specs.Shapes.{Shape, moduli_of, shape_of, shape_nodes, fields_at}
use Rattle.state_codec.specs.Ranges.{InRange}
use Rattle.state_codec.proofs.PlanStates.{state_of_node}
use Rattle.state_codec.specs.Texts.{read_text, decoded}
use Rattle.state_codec.proofs.Ranged.{read_is_in_range}
use Rattle.state_codec.proofs.Lows.{fields_limited}
use Rattle.state_codec.proofs.Plans.{shape_of_accepted, nodes_of_shape, depth_of_shape}
use Rattle.std.specs.Prelude.{nat_lt}
use Rattle.run_checker.specs.Checking.{is_next}
use Rattle.run_checker.specs.Stated.{unless_faulty}
use Rattle.run_checker.specs.Tellings.{Telling, AddsState}
use Rattle.std.specs.List.{flat_map}
use Rattle.std.proofs.lemmas.Bool.{and_parts, eqb-true, ltb-true, lt-ltb, le-ltb, ne_eqb}
use Rattle.run_checker.specs.Rounds.{AreStates, IsTold}
use Rattle.adversary_script.specs.Scripts.{most_rounds}

module _ (plan : Plan) (accepted : IsAccepted plan) where
  -- a state of a node's fields is one of the counter
  pub node_range : (v : ℕ) → v < plan_nodes plan → (s : State)
      → InRange (fields_at (shape_of plan) v) s
      → IsInRange plan s
  node_range v lt s range =
      let some = positive plan.base plan.levels accepted.levels in
      range_of_state plan some.0 some.1 v s (state_of_node plan accepted v lt s range)

  pub node_deep : (v : ℕ) → v < plan_nodes plan → (s : State)
      → InRange (fields_at (shape_of plan) v) s
      → length s.registers ≡ plan_depth plan
  node_deep v lt s range = (state_of_node plan accepted v lt s range).depth

  -- a state that is told
  pub states_more : (states : List State) (s : State) → AreStates plan states
      → length s.registers ≡ plan_depth plan → IsInRange plan s → AreStates plan (states ++ s ∷ [])
  states_more states s h deep range = record {
    deep = All-push (λ s. length s.registers ≡ plan_depth plan) states s h.deep deep;
    range = All-push (IsInRange plan) states s h.range range;
  }

  -- another state was told, or not
  pub record IsKeptTold (old new : Telling) : Type 0 where
    pub pairs : new.pairs ≡ old.pairs
    pub kept : new.shape ≡ old.shape
    pub room : new.room ≡ old.room
    pub states : AreStates plan new.states

  same_told : (old new : Telling) → new ≡ old → AreStates plan old.states → IsKeptTold old new
  same_told old new e h = record {
    pairs = ap (λ (t : Telling). t.pairs) e;
    kept = ap (λ (t : Telling). t.shape) e;
    room = ap (λ (t : Telling). t.room) e;
    states = subst (λ (t : Telling). AreStates plan t.states) (sym e) h;
  }

  pub told_kept : (digits : List ℕ) (old new : Telling) (result : Bool)
      → AddsState digits old new result → old.shape ≡ shape_of plan
      → (get_or old.pairs (length old.states) (0, 0)).0 < plan_nodes plan
      → AreStates plan old.states → IsKeptTold old new
  told_kept digits old new false h is lt states = same_told old new h.1 states
  told_kept digits old new true h is lt states =
      let v : ℕ = (get_or old.pairs (length old.states) (0, 0)).0 in
      let s : State = read_text (fields_at (shape_of plan) v) digits in
      let range : InRange (fields_at (shape_of plan) v) s =
      read_is_in_range (fields_at (shape_of plan) v) (decoded digits)
      (fields_limited (shape_of plan) v (shape_of_accepted plan accepted)) in
      let more : AreStates plan (old.states ++ s ∷ []) =
      states_more old.states s states (node_deep v lt s range) (node_range v lt s range) in
      record {
        pairs = ap (λ (t : Telling). t.pairs) h.1;
        kept = ap (λ (t : Telling). t.shape) h.1;
        room = ap (λ (t : Telling). t.room) h.1;
        states = subst (λ (t : Telling). AreStates plan t.states) (sym h.1)
            (subst
            (λ (f : Shape). AreStates plan
            (old.states ++ read_text (fields_at f v) digits ∷ []))
            (sym is) more);
      }

  pub no_states : AreStates plan []
  no_states =
      record { deep = λ k d lt. absurd (omega arith); range = λ k d lt. absurd (omega arith) }

-- if no state is known, all are zero
same_both : (b : Bool) (s : State) → s ≡ cond b s s
same_both true s = refl
same_both false s = refl

zeros_from : (faulty : List ℕ) (s : State) (a n : ℕ)
    → replicate n s ≡ map (λ v. cond (is_in faulty v) s s) (range_with_len a n)
zeros_from faulty s a zero = refl
zeros_from faulty s a (suc n) =
    ap (λ rest. s ∷ rest) (zeros_from faulty s (a + 1) n)
    ∙ ap (λ t. t ∷ map (λ v. cond (is_in faulty v) s s) (range_with_len (a + 1) n))
    (same_both (is_in faulty a) s)

pub zeros_known : (plan : Plan) (faulty : List ℕ)
    → replicate (plan_nodes plan) (zero_state (plan_depth plan))
    ≡ unless_faulty plan faulty (λ v. zero_state (plan_depth plan))
zeros_known plan faulty = zeros_from faulty (zero_state (plan_depth plan)) 0 (plan_nodes plan)

-- ---- the shape of a plan

pub shape_has_nodes : (plan : Plan) (shape : Shape) → shape ≡ shape_of plan
    → shape_nodes shape ≡ plan_nodes plan
shape_has_nodes plan shape is = ap shape_nodes is ∙ nodes_of_shape plan (moduli_of plan.levels)

pub shape_has_depth : (plan : Plan) (shape : Shape) → shape ≡ shape_of plan
    → shape.depth ≡ plan_depth plan
shape_has_depth plan shape is = ap (λ (s : Shape). s.depth) is ∙ depth_of_shape plan

-- ---- a round

pub none_are : (plan : Plan) → AreStates plan []
none_are plan = record {
  deep = λ k d lt. absurd (omega (arith, lt));
  range = λ k d lt. absurd (omega (arith, lt));
}

-- a round is left if all of one was told
pub round_left : (at m n : ℕ) → (nat_lt at most_rounds && eqb m n) ≡ true → at + 1 ≤ most_rounds
round_left at m n e =
    let lt = ltb-true at most_rounds (and_parts (nat_lt at most_rounds) (eqb m n) e).0 in
    omega (arith, lt)

told_whole : (b : Bool) (m n : ℕ) → (b && eqb m n) ≡ true → m ≡ n
told_whole b m n e = eqb-true m n (and_parts b (eqb m n) e).1

-- if all of a round was told, it may be played
pub told_of : (plan : Plan) (faulty : FaultIds) (told : Telling) → faulty.nodes ≡ plan_nodes plan
    → AreStates plan told.states → told.shape ≡ shape_of plan → (b : Bool)
    → (b && eqb (length told.states) (length (pairs_of (plan_nodes plan) faulty.ids))) ≡ true
    → IsTold plan faulty told
told_of plan faulty told nodes states shape b e = record {
  nodes = nodes;
  whole = told_whole b (length told.states) (length (pairs_of (plan_nodes plan) faulty.ids)) e;
  states = states;
  shape = shape;
}

-- ---- pairs

abbrev pub Below : ℕ → ℕ × ℕ → Type 0
Below n pair = pair.0 < n

row_below : (n u : ℕ) (vs : List ℕ) → u < n → All (Below n) (map (λ v. (u, v)) vs)
row_below n u [] lt = All-nil (Below n)
row_below n u (v ∷ vs) lt =
    All-cons (Below n) (u, v) (map (λ v. (u, v)) vs) lt (row_below n u vs lt)

both_below : (n : ℕ) (xs ys : List (ℕ × ℕ)) → All (Below n) xs → All (Below n) ys
    → All (Below n) (xs ++ ys)
both_below n [] ys h k = k
both_below n (x ∷ xs) ys h k =
    All-cons (Below n) x (xs ++ ys) (All-head (Below n) x xs h)
    (both_below n xs ys (All-tail (Below n) x xs h) k)

-- the senders of pairs are nodes
pub senders_below : (n : ℕ) (vs us : List ℕ) → All (λ id. id < n) us
    → All (Below n) (flat_map (λ u. map (λ v. (u, v)) vs) us)
senders_below n vs [] h = All-nil (Below n)
senders_below n vs (u ∷ us) h =
    both_below n (map (λ v. (u, v)) vs) (flat_map (λ u. map (λ v. (u, v)) vs) us)
    (row_below n u vs (All-head (λ id. id < n) u us h))
    (senders_below n vs us (All-tail (λ id. id < n) u us h))

-- and so is that of the next pair, which is one of those that are left
pub next_below : (n u v k : ℕ) (pairs : List (ℕ × ℕ)) → All (Below n) pairs
    → is_next u v (drop k pairs) ≡ true
    → (u < n) × (k < length pairs) × ((get_or pairs k (0, 0)).0 ≡ u)
next_below n u v zero [] h e = absurd cc
next_below n u v zero (p ∷ pairs) h e =
    let same : p.0 ≡ u = eqb-true p.0 u (and_parts (eqb p.0 u) (eqb p.1 v) e).0 in
    let lt : p.0 < n = All-head (Below n) p pairs h in
    (omega (arith, same, lt), omega arith, same)
next_below n u v (suc k) [] h e = absurd cc
next_below n u v (suc k) (p ∷ pairs) h e =
    let r = next_below n u v k pairs (All-tail (Below n) p pairs h) e in
    (r.0, omega (arith, r.1), r.2)

-- ---- eras

-- another era may begin if an empty set is left
pub some_left : (most left : ℕ) → left ≤ most → not (eqb left 0) ≡ nat_lt (most - left) most
some_left most zero le = sym (le-ltb (most - 0) most (omega arith))
some_left most (suc left) le =
    ap not (ne_eqb (suc left) 0 (λ (none : suc left ≡ 0). omega (arith, none)))
    ∙ sym (lt-ltb (most - suc left) most (omega (arith, le)))
