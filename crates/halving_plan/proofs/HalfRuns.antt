-- A run of a group of two halves is, in each half, a run of that half.
use Rattle.std.proofs.Common.{◌≡◌, ℕ, ◌+◌, ◌-◌, ◌<◌, ◌≤◌, Bool, cond, List, [], length, map, drop}
use Rattle.std.proofs.Common.{ap, ◌∙◌, subst, arith}
use Rattle.std.specs.Prelude.{nat_lt}
use Rattle.std.proofs.lemmas.Bool.{lt-ltb, le-ltb}
use Rattle.std.proofs.lemmas.List.{length-map, length-drop, get_or-map, get_or-take}
use Rattle.std.proofs.lemmas.List.{get_or-drop, length-take-le}
use Rattle.sync_types.specs.declared.states.Reg.{Reg}
use Rattle.sync_types.specs.States.{State, zero_state}
use Rattle.construction.specs.Steps.{state_of}
use Rattle.halving_plan.specs.Halves.{Halves, left_period, right_period}
use Rattle.halving_plan.specs.Trees.{Tree, Split, tree_nodes, halves_of}
use Rattle.halving_plan.specs.Registers.{inner}
use Rattle.halving_plan.specs.Steps.{half_of, new_level_state, step_in}
use Rattle.halving_plan.specs.Runs.{Fields, fields_in, HasFields}
use Rattle.halving_plan.proofs.Ranges.{has_inner}
use Rattle.halving_plan.proofs.LevelStates.{followed, inner_back}
use Rattle.halving_plan.proofs.Places.{RunIn}

-- ---- what is heard of a half

pub length-half_of : (first m : ℕ) (group : List State) → first + m ≤ length group
    → length (half_of first m group) ≡ m
length-half_of first m group room =
    length-take-le m (drop first (map inner group))
    (omega (arith, length-drop first (map inner group), length-map group inner))

pub state_in_half : (first m u : ℕ) (group : List State) → first + m ≤ length group → u < m
    → state_of (half_of first m group) u ≡ inner (state_of group (first + u))
state_in_half first m u group room lt =
    get_or-take m (drop first (map inner group)) u (zero_state 0) lt
    ∙ (get_or-drop first (map inner group) u (zero_state 0)
    ∙ get_or-map inner group (first + u) (zero_state 0) (zero_state 0) (omega arith))

-- ---- a step in a half

module _ (left right : Tree) (spares : ℕ) where
  -- the sizes of the halves
  abbrev halves : Halves
  halves = halves_of left right spares

  abbrev n : ℕ
  n = tree_nodes left

  abbrev m : ℕ
  m = tree_nodes right

  -- the fields of a spare in a half
  abbrev none : Fields
  none = record { base = 1; moduli = [] }

  -- the state of a node of the left half, in it
  in_left : (modulus u : ℕ) (group : List State) (further : List Reg) → u < n
      → inner (followed (step_in (Split left right spares) modulus (0 + u) group) further)
      ≡ followed (step_in left (left_period halves) u (half_of 0 n group)) further
  in_left modulus u group further lt =
      let e : 0 + u ≡ u = omega arith in
      let in_right : State =
      cond (nat_lt u (n + m)) (step_in right (right_period halves) (u - n) (half_of n m group))
      (zero_state 0) in
      ap (λ v. inner (followed (step_in (Split left right spares) modulus v group) further)) e
      ∙ (inner_back (new_level_state left right spares modulus u group)
      (cond (nat_lt u n) (step_in left (left_period halves) u (half_of 0 n group)) in_right) further
      ∙ ap (λ b.
      followed (cond b (step_in left (left_period halves) u (half_of 0 n group)) in_right) further)
      (lt-ltb u n lt))

  -- and of the right half
  in_right : (modulus u : ℕ) (group : List State) (further : List Reg) → u < m
      → inner (followed (step_in (Split left right spares) modulus (n + u) group) further)
      ≡ followed (step_in right (right_period halves) u (half_of n m group)) further
  in_right modulus u group further lt =
      let v : ℕ = n + u in
      let e : n + u - n ≡ u = omega arith in
      let left_state : State = step_in left (left_period halves) v (half_of 0 n group) in
      let right_state : State = step_in right (right_period halves) (v - n) (half_of n m group) in
      inner_back (new_level_state left right spares modulus v group)
      (cond (nat_lt v n) left_state (cond (nat_lt v (n + m)) right_state (zero_state 0))) further
      ∙ (ap (λ b. followed
      (cond b left_state (cond (nat_lt v (n + m)) right_state (zero_state 0))) further)
      (le-ltb v n (omega arith))
      ∙ (ap (λ b. followed (cond b right_state (zero_state 0)) further)
      (lt-ltb v (n + m) (omega arith))
      ∙ ap (λ w. followed (step_in right (right_period halves) w (half_of n m group)) further) e))

  -- the fields of a node of the left half, in it
  left_fields : (modulus u : ℕ) (state : State) → u < n
      → HasFields (fields_in (Split left right spares) modulus (0 + u)) state
      → HasFields (fields_in left (left_period halves) u) (inner state)
  left_fields modulus u state lt has =
      let e : 0 + u ≡ u = omega arith in
      let others : Fields =
      cond (nat_lt u (n + m)) (fields_in right (right_period halves) (u - n)) none in
      subst (λ b. HasFields (cond b (fields_in left (left_period halves) u) others) (inner state))
      (lt-ltb u n lt)
      (has_inner modulus (left_period halves)
      (cond (nat_lt u n) (fields_in left (left_period halves) u) others) state
      (subst (λ v. HasFields (fields_in (Split left right spares) modulus v) state) e has))

  -- and of the right half
  right_fields : (modulus u : ℕ) (state : State) → u < m
      → HasFields (fields_in (Split left right spares) modulus (n + u)) state
      → HasFields (fields_in right (right_period halves) u) (inner state)
  right_fields modulus u state lt has =
      let v : ℕ = n + u in
      let e : n + u - n ≡ u = omega arith in
      let here : Fields = fields_in left (left_period halves) v in
      let there : Fields = fields_in right (right_period halves) (v - n) in
      subst (λ w. HasFields (fields_in right (right_period halves) w) (inner state)) e
      (subst (λ b. HasFields (cond b there none) (inner state)) (lt-ltb v (n + m) (omega arith))
      (subst (λ b. HasFields (cond b here (cond (nat_lt v (n + m)) there none)) (inner state))
      (le-ltb v n (omega arith))
      (has_inner modulus (left_period halves)
      (cond (nat_lt v n) here (cond (nat_lt v (n + m)) there none)) state has)))

  module _ (modulus : ℕ) (faulty : ℕ → Bool) (last : ℕ) (run : ℕ → ℕ → State)
      (is : RunIn (Split left right spares) modulus faulty last run) where
    pub left_run : RunIn left (left_period halves) (λ u. faulty (0 + u)) last
        (λ t u. inner (run t (0 + u)))
    left_run = record {
      fields = λ t u hi lt ok.
          left_fields modulus u (run t (0 + u)) lt (is.fields t (0 + u) hi (omega arith) ok);
      steps = λ t u hi lt ok.
          let s = is.steps t (0 + u) hi (omega arith) ok in
          let size = s.size in record {
            heard = half_of 0 n s.heard;
            size = length-half_of 0 n s.heard (omega arith);
            honest = λ w wlt wok. state_in_half 0 n w s.heard (omega arith) wlt
                ∙ ap inner (s.honest (0 + w) (omega arith) wok);
            further = s.further;
            step = ap inner s.step ∙ in_left modulus u s.heard s.further lt;
          };
    }

    pub right_run : RunIn right (right_period halves) (λ u. faulty (n + u)) last
        (λ t u. inner (run t (n + u)))
    right_run = record {
      fields = λ t u hi lt ok.
          right_fields modulus u (run t (n + u)) lt (is.fields t (n + u) hi (omega arith) ok);
      steps = λ t u hi lt ok.
          let s = is.steps t (n + u) hi (omega arith) ok in
          let size = s.size in record {
            heard = half_of n m s.heard;
            size = length-half_of n m s.heard (omega arith);
            honest = λ w wlt wok. state_in_half n m w s.heard (omega arith) wlt
                ∙ ap inner (s.honest (n + w) (omega arith) wok);
            further = s.further;
            step = ap inner s.step ∙ in_right modulus u s.heard s.further lt;
          };
    }
