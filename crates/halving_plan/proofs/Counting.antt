-- A tree counts from its bound on, by induction: one half counts, and so the group does.
use Rattle.std.proofs.Common.{◌≡◌, ◌⊎◌, ℕ, ◌+◌, ◌<◌, ◌≤◌, Bool, false}
use Rattle.std.proofs.Common.{Option, Some, None, IfSome, unwrap_or, ap, ◌∙◌, subst, inl}
use Rattle.std.proofs.Common.{inr, ⊎_elim, arith}
use Rattle.std.proofs.Math.Nat.{le-max_left, le-max_right}
use Rattle.std.proofs.lemmas.Bool.{cases_lt}
use Rattle.sync_types.specs.declared.states.Reg.{Reg}
use Rattle.sync_types.specs.States.{State, register_at}
use Rattle.counting.specs.Places.{places}
use Rattle.counting.proofs.Places.{one_fails}
use Rattle.construction.specs.PhaseKing.{up}
use Rattle.construction.specs.Steps.{state_of}
use Rattle.phase_king.specs.Hearing.{AllLocked}
use Rattle.halving_plan.specs.Halves.{Halves, left_period, right_period, left_wait, right_wait}
use Rattle.halving_plan.specs.Level.{faults_in, HalfCounts, StaysLocked, OneHalfIsSound}
use Rattle.halving_plan.specs.Level.{HalvesSettle}
use Rattle.halving_plan.specs.Level.{LockedStaysLocked}
use Rattle.halving_plan.specs.Trees.{Tree, One, Split, tree_nodes, tree_faults}
use Rattle.halving_plan.specs.Trees.{tree_bound, halves_of}
use Rattle.halving_plan.specs.Registers.{inner}
use Rattle.halving_plan.specs.Steps.{shown_in}
use Rattle.halving_plan.specs.Runs.{fields_in, HasFields}
use Rattle.halving_plan.proofs.Numbers.{three_faults, is_halved}
use Rattle.halving_plan.proofs.Places.{StepsIn, RunIn, CountsIn, SettlesIn}
use Rattle.halving_plan.proofs.HalfRuns.{left_run, right_run}
use Rattle.halving_plan.proofs.LevelRuns.{level_states, outputs, left_output, right_output}
use Rattle.halving_plan.proofs.LevelRuns.{level_states_step}

-- ---- one node

-- its number goes to the next one
one_goes_on : (modulus : ℕ) (faulty : ℕ → Bool) (old : ℕ → State) (new : State) → faulty 0 ≡ false
    → StepsIn One modulus faulty old 0 new → new.x ≡ up modulus (old 0).x
one_goes_on modulus faulty old new ok s =
    let by : (heard : State) → heard ≡ old 0 → up modulus heard.x ≡ up modulus (old 0).x =
    λ heard e. ap (λ (state : State). up modulus state.x) e in
    ap (λ (state : State). state.x) s.step ∙ by (state_of s.heard 0) (s.honest 0 (omega arith) ok)

pub one_counts : (modulus : ℕ) → SettlesIn One modulus
one_counts modulus faulty last run few is =
    let correct = one_fails faulty 1 (omega arith) in
    let e : correct.0 ≡ 0 = let lt = correct.1 in omega arith in
    let ok : faulty 0 ≡ false = subst (λ v. faulty v ≡ false) e correct.2 in record {
      output = λ t. (run t 0).x;
      shows = λ t v lo hi lt vok. let z : v ≡ 0 = omega arith in ap (λ u. (run t u).x) z;
      grows = λ t lo hi.
          one_goes_on modulus faulty (run t) (run (t + 1) 0) ok (is.steps t 0 hi (omega arith) ok);
    }

-- ---- a half as the level above sees it

value_shown : (modulus : ℕ) (a : Option ℕ) → 0 < modulus → IfSome a (λ n. n < modulus)
    → unwrap_or a 0 < modulus
value_shown modulus None some below = some
value_shown modulus (Some n) some below = below

-- what is shown is below the modulus
pub shown_below : (tree : Tree) (modulus v : ℕ) (state : State) → 0 < modulus
    → HasFields (fields_in tree modulus v) state → shown_in tree state < modulus
shown_below One modulus v state some has = has.x
shown_below (Split left right spares) modulus v state some has =
    value_shown modulus (register_at 0 state).a some (has.values 0 (omega arith))

module _ (half : Tree) (first period : ℕ) (some : 0 < period) (faulty : ℕ → Bool) (last : ℕ)
    (states : ℕ → ℕ → State) where
  half_counts : (from : ℕ) → tree_bound half ≤ from → from ≤ last
      → faults_in first (tree_nodes half) faulty ≤ tree_faults half
      → RunIn half period (λ u. faulty (first + u)) last (λ t u. states t (first + u))
      → CountsIn half period (λ u. faulty (first + u)) last (λ t u. states t (first + u))
      → (outputs : ℕ → ℕ → ℕ)
      → ((t u : ℕ) → u < tree_nodes half
      → outputs t (first + u) ≡ shown_in half (states t (first + u)))
      → HalfCounts first (tree_nodes half) (tree_faults half) period faulty from last outputs
  half_counts from after long few is counts outputs out =
      let correct = one_fails (λ u. faulty (first + u)) (tree_nodes half)
      (omega (arith, three_faults half)) in
      let u : ℕ = correct.0 in record {
        few = few;
        output = counts.output;
        starts = subst (λ z. z < period) (counts.shows from u after long correct.1 correct.2)
            (shown_below half period u (states from (first + u)) some
            (is.fields from u long correct.1 correct.2));
        grows = λ t lo hi. counts.grows t (omega arith) hi;
        common = λ t w lo hi lt ok. out t w lt ∙ counts.shows t w (omega arith) hi lt ok;
      }

-- ---- two halves

-- what stays locked from a configuration on does so from later ones
later : (nodes : ℕ) (next : ℕ → ℕ) (faulty : ℕ → Bool) (from more last : ℕ)
    (registers : ℕ → ℕ → Reg) → from ≤ more → StaysLocked nodes next faulty from last registers
    → StaysLocked nodes next faulty more last registers
later nodes next faulty from more last registers le stays = record {
  value = stays.value;
  locked = λ r lo hi. stays.locked r (omega arith) hi;
  grows = λ r lo hi. stays.grows r (omega arith) hi;
}

-- nothing is asked of a run that ends before
none_left : (nodes : ℕ) (next : ℕ → ℕ) (faulty : ℕ → Bool) (from last : ℕ)
    (registers : ℕ → ℕ → Reg) → last < from → StaysLocked nodes next faulty from last registers
none_left nodes next faulty from last registers short = record {
  value = λ r. 0;
  locked = λ r lo hi. absurd (omega arith);
  grows = λ r lo hi. absurd (omega arith);
}

module _ (left right : Tree) (spares modulus : ℕ) (faulty : ℕ → Bool) (last : ℕ)
    (run : ℕ → ℕ → State)
    (few : places faulty (tree_nodes (Split left right spares))
    ≤ tree_faults (Split left right spares))
    (is : RunIn (Split left right spares) modulus faulty last run) where
  abbrev halves : Halves
  halves = halves_of left right spares

  -- the first registers of the nodes from a configuration on
  abbrev StaysFrom : ℕ → Type 0
  StaysFrom from =
      StaysLocked (tree_nodes (Split left right spares)) (up modulus) faulty from last
      (λ t v. register_at 0 (run t v))

  module _ (one_half : OneHalfIsSound) (settle : HalvesSettle) where
    by_left : SettlesIn left (left_period halves) → faults_in 0 (tree_nodes left) faulty
        ≤ tree_faults left → (last < tree_bound left) ⊎ (tree_bound left ≤ last)
        → StaysFrom (tree_bound (Split left right spares))
    by_left settles sound (inl short) =
        none_left _ _ _ _ _ _
        (let most = le-max_left (tree_bound left + left_wait halves)
        (tree_bound right + right_wait halves) in omega arith)
    by_left settles sound (inr long) =
        let in_half = left_run left right spares modulus faulty last run is in
        later _ _ _ (tree_bound left + left_wait halves) _ _ _
        (le-max_left (tree_bound left + left_wait halves)
        (tree_bound right + right_wait halves))
        ((settle halves (up modulus) faulty (is_halved left right spares) few
        0 last (outputs left right spares modulus faulty last run is)
        (level_states left right spares modulus faulty last run is)
        (level_states_step left right spares modulus faulty last run is 0) (tree_bound left)
        (omega arith)).0
        (half_counts left 0 (left_period halves) (omega arith) faulty last (λ t v. inner (run t v))
        (tree_bound left) (omega arith) long sound in_half
        (settles (λ u. faulty (0 + u)) last (λ t u. inner (run t (0 + u))) sound in_half)
        (outputs left right spares modulus faulty last run is)
        (left_output left right spares modulus faulty last run is)))

    by_right : SettlesIn right (right_period halves)
        → faults_in (tree_nodes left) (tree_nodes right) faulty ≤ tree_faults right
        → (last < tree_bound right) ⊎ (tree_bound right ≤ last)
        → StaysFrom (tree_bound (Split left right spares))
    by_right settles sound (inl short) =
        none_left _ _ _ _ _ _
        (let most = le-max_right (tree_bound left + left_wait halves)
        (tree_bound right + right_wait halves) in omega arith)
    by_right settles sound (inr long) =
        let n : ℕ = tree_nodes left in
        let in_half = right_run left right spares modulus faulty last run is in
        later _ _ _ (tree_bound right + right_wait halves) _ _ _
        (le-max_right (tree_bound left + left_wait halves)
        (tree_bound right + right_wait halves))
        ((settle halves (up modulus) faulty (is_halved left right spares) few
        0 last (outputs left right spares modulus faulty last run is)
        (level_states left right spares modulus faulty last run is)
        (level_states_step left right spares modulus faulty last run is 0) (tree_bound right)
        (omega arith)).1
        (half_counts right n (right_period halves) (omega arith) faulty last
        (λ t v. inner (run t v)) (tree_bound right) (omega arith) long sound in_half
        (settles (λ u. faulty (n + u)) last (λ t u. inner (run t (n + u))) sound in_half)
        (outputs left right spares modulus faulty last run is)
        (right_output left right spares modulus faulty last run is)))

    -- the registers are locked from the bound on
    pub locked_over : SettlesIn left (left_period halves)
        → SettlesIn right (right_period halves)
        → StaysFrom (tree_bound (Split left right spares))
    locked_over settles_left settles_right = ⊎_elim
        (λ sound. by_left settles_left sound (cases_lt last (tree_bound left)))
        (λ sound. by_right settles_right sound (cases_lt last (tree_bound right)))
        (one_half halves faulty (is_halved left right spares) few)

  -- and from any locked configuration on
  pub stays_over : LockedStaysLocked → (t value : ℕ)
      → AllLocked (tree_nodes (Split left right spares)) faulty (λ v. register_at 0 (run t v))
      value
      → StaysFrom t
  stays_over stay t value all =
      stay (halves_of left right spares) (up modulus) faulty (is_halved left right spares) few t
      last
      (outputs left right spares modulus faulty last run is)
      (level_states left right spares modulus faulty last run is)
      (level_states_step left right spares modulus faulty last run is t) value all

-- ---- the tree

module _ (one_half : OneHalfIsSound) (settle : HalvesSettle) where
  split_counts : (left right : Tree) (spares modulus : ℕ)
      → SettlesIn left (left_period (halves_of left right spares))
      → SettlesIn right (right_period (halves_of left right spares))
      → SettlesIn (Split left right spares) modulus
  split_counts left right spares modulus settles_left settles_right faulty last run few is =
      let stays = locked_over left right spares modulus faulty last run few is one_half settle
      settles_left settles_right in record {
        output = stays.value;
        shows = λ t v lo hi lt ok. ap (λ (r : Reg). unwrap_or r.a 0) (stays.locked t lo hi v lt ok);
        grows = stays.grows;
      }

  pub tree_settles : (tree : Tree) (modulus : ℕ) → SettlesIn tree modulus
  tree_settles One modulus = one_counts modulus
  tree_settles (Split left right spares) modulus =
      split_counts left right spares modulus
      (tree_settles left (left_period (halves_of left right spares)))
      (tree_settles right (right_period (halves_of left right spares)))
