-- In a run of a group of two halves the level states of the correct nodes step, by what they hear.
use Rattle.std.proofs.Common.{◌≡◌, ℕ, ◌+◌, ◌-◌, ◌<◌, ◌≤◌, Bool, false, cond, List, length, map, sym}
use Rattle.std.proofs.Common.{ap, ◌∙◌, arith}
use Rattle.std.specs.Prelude.{nat_lt}
use Rattle.std.proofs.lemmas.Bool.{lt-ltb, le-ltb}
use Rattle.std.proofs.lemmas.List.{length-map, get_or-map}
use Rattle.sync_types.specs.States.{State, zero_state}
use Rattle.construction.specs.PhaseKing.{up}
use Rattle.construction.specs.Steps.{state_of}
use Rattle.halving_plan.specs.Halves.{Halves, left_period, right_period}
use Rattle.halving_plan.specs.LevelStates.{LevelState, zero_level_state, level_state_after}
use Rattle.halving_plan.specs.Hearing.{HearsOutputs, LevelStatesStep}
use Rattle.halving_plan.specs.Trees.{Tree, Split, tree_nodes, halves_of}
use Rattle.halving_plan.specs.Registers.{level_state_of, inner}
use Rattle.halving_plan.specs.Steps.{shown_in, half_of, new_level_state, step_in}
use Rattle.halving_plan.proofs.LevelStates.{level_state_back}
use Rattle.halving_plan.proofs.Places.{RunIn}
use Rattle.halving_plan.proofs.HalfRuns.{length-half_of, state_in_half}

-- what is heard of the outputs of a half
hears_half : (half : Tree) (first : ℕ) (faulty : ℕ → Bool) (old : ℕ → State)
    (outputs : ℕ → ℕ) (heard : List State)
    → first + tree_nodes half ≤ length heard
    → ((u : ℕ) → u < tree_nodes half → outputs (first + u)
    ≡ shown_in half (inner (old (first + u))))
    → ((u : ℕ) → u < tree_nodes half → faulty (first + u) ≡ false
    → state_of heard (first + u) ≡ old (first + u))
    → HearsOutputs first (tree_nodes half) faulty outputs
    (map (shown_in half) (half_of first (tree_nodes half) heard))
hears_half half first faulty old outputs heard room out honest =
    let m : ℕ = tree_nodes half in
    let size = length-half_of first m heard room in record {
      size = length-map (half_of first m heard) (shown_in half) ∙ size;
      honest = λ u lt ok.
          get_or-map (shown_in half) (half_of first m heard) u (zero_state 0) 0 (omega arith)
          ∙ (ap (shown_in half) (state_in_half first m u heard room lt ∙ ap inner (honest u lt ok))
          ∙ sym (out u lt));
    }

module _ (left right : Tree) (spares modulus : ℕ) (faulty : ℕ → Bool) (last : ℕ)
    (run : ℕ → ℕ → State) (is : RunIn (Split left right spares) modulus faulty last run) where
  abbrev halves : Halves
  halves = halves_of left right spares

  -- the level states of the nodes
  abbrev pub level_states : ℕ → ℕ → LevelState
  level_states t v = level_state_of (run t v)

  -- and what those of the halves show in them
  abbrev pub outputs : ℕ → ℕ → ℕ
  outputs t u = cond (nat_lt u (tree_nodes left)) (shown_in left (inner (run t u)))
      (shown_in right (inner (run t u)))

  pub left_output : (t u : ℕ) → u < tree_nodes left
      → outputs t (0 + u) ≡ shown_in left (inner (run t (0 + u)))
  left_output t u lt =
      ap (λ b. cond b (shown_in left (inner (run t (0 + u))))
      (shown_in right (inner (run t (0 + u))))) (lt-ltb (0 + u) (tree_nodes left) (omega arith))

  pub right_output : (t u : ℕ) → u < tree_nodes right
      → outputs t (tree_nodes left + u)
      ≡ shown_in right (inner (run t (tree_nodes left + u)))
  right_output t u lt =
      let v : ℕ = tree_nodes left + u in
      ap (λ b. cond b (shown_in left (inner (run t v))) (shown_in right (inner (run t v))))
      (le-ltb v (tree_nodes left) (omega arith))

  pub level_states_step : (t : ℕ)
      → LevelStatesStep (halves_of left right spares) (up modulus) faulty t last outputs
      level_states
  level_states_step t = λ r v lo hi lt ok.
      let n : ℕ = tree_nodes left in
      let m : ℕ = tree_nodes right in
      let s = is.steps r v hi lt ok in
      let size = s.size in
      let level_state : LevelState = new_level_state left right spares modulus v s.heard in
      let rest : State =
      cond (nat_lt v n) (step_in left (left_period halves) v (half_of 0 n s.heard))
      (cond (nat_lt v (n + m)) (step_in right (right_period halves) (v - n) (half_of n m s.heard))
      (zero_state 0)) in
      let heard_left : List ℕ = map (shown_in left) (half_of 0 n s.heard) in
      let heard_right : List ℕ = map (shown_in right) (half_of n m s.heard) in
      let heard_level_states : List LevelState = map level_state_of s.heard in record {
        heard = record { left = heard_left; right = heard_right; states = heard_level_states };
        hears = record {
          left = hears_half left 0 faulty (run r) (outputs r) s.heard (omega arith)
              (left_output r) (λ u ult uok. s.honest (0 + u) (omega arith) uok);
          right = hears_half right n faulty (run r) (outputs r) s.heard (omega arith)
              (right_output r) (λ u ult uok. s.honest (n + u) (omega arith) uok);
          group = record {
            size = length-map s.heard level_state_of ∙ size;
            honest = λ u ult uok.
                get_or-map level_state_of s.heard u (zero_state 0) zero_level_state
                (omega arith)
                ∙ ap level_state_of (s.honest u ult uok);
          };
        };
        step = ap level_state_of s.step
            ∙ (level_state_back level_state rest s.further
            ∙ ap (λ own. level_state_after halves (up modulus) (level_state_of own) heard_left
            heard_right
            heard_level_states) (s.honest v lt ok));
      }
