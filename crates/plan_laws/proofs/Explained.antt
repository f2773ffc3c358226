-- What the nested counter means is what the plan means, number by number.
use Rattle.std.proofs.Common.{◌≡◌, ℕ, ◌+◌, ◌*◌, ◌/◌, ◌%◌, cond, List, [], ◌∷◌, length, map, take}
use Rattle.std.proofs.Common.{unwrap_or, refl, sym, ap, ap₂, ◌∙◌, arith}
use Rattle.std.specs.Prelude.{nat_lt}
use Rattle.std.specs.List.{range_with_len}
use Rattle.std.proofs.lemmas.Bool.{ltb-true}
use Rattle.std.proofs.lemmas.Nat.{div_below}
use Rattle.std.proofs.lemmas.List.{length-map, length-take-le, get_or-map, get_or-take}
use Rattle.std.proofs.lemmas.List.FromFn.{fill_by_all}
use Rattle.sync_types.specs.declared.states.Reg.{Reg}
use Rattle.sync_types.specs.States.{State, zero_state, register_at}
use Rattle.construction.specs.Plans.{Level, group_size, nodes_of, faults_of, modulus_of, bound_of}
use Rattle.construction.specs.Plans.{span_of}
use Rattle.construction.specs.Shown.{shown}
use Rattle.construction.specs.Votes.{block}
use Rattle.construction.specs.Steps.{state_of, register_after, new_register, with_register, step_in}
use Rattle.construction.proofs.Blocks.{length-block, block_some}
use Rattle.counter_core.specs.Meanings.{Meaning}
use Rattle.plan_laws.specs.Boosted.{outputs_heard, level_register, inner_state, boosted}
use Rattle.construction.proofs.Choices.{same_choice}
use Rattle.plan_laws.specs.Nested.{meaning_of}

-- a counter means what these levels mean
pub record Explains (m : Meaning) (base : ℕ) (levels : List Level) : Type 0 where
  pub nodes : m.nodes ≡ nodes_of levels
  pub faults : m.faults ≡ faults_of levels
  pub modulus : m.modulus ≡ modulus_of base levels
  pub bound : m.bound ≡ bound_of levels
  pub depth : m.depth ≡ length levels
  pub shows : (v : ℕ) (s : State) → m.shows v s ≡ shown (length levels) s
  pub next : (v : ℕ) (heard : List State) → length heard ≡ nodes_of levels
      → m.next v heard ≡ step_in base levels v heard

module _ (m : Meaning) (base : ℕ) (level : Level) (below : List Level) (e : Explains m base below)
  where
    same_outputs : (heard : List State) → length heard ≡ group_size level (nodes_of below)
        → outputs_heard m level heard ≡ map (shown (length below))
        (take (level.blocks * nodes_of below) heard)
    same_outputs heard size =
        let g : ℕ → ℕ = λ u. m.shows (u % m.nodes) (state_of heard u) in
        let all : ℕ = level.blocks * nodes_of below in
        let front : List State = take all heard in
        let long : length front ≡ all = length-take-le all heard (omega arith) in
        ap (λ n. map g (range_with_len 0 (level.blocks * n))) e.nodes
        ∙ sym (fill_by_all g (map (shown (length below)) front) all 0
        (length-map front (shown (length below)) ∙ long)
        (λ u ult. get_or-map (shown (length below)) front u (zero_state 0) 0 (omega arith)
        ∙ (ap (shown (length below)) (get_or-take all heard u (zero_state 0) ult)
        ∙ sym (e.shows (u % m.nodes) (state_of heard u)))))

    -- the register of the top level
    top_register : (v : ℕ) (heard : List State) → length heard ≡ group_size level (nodes_of below)
        → level_register m level v heard
        ≡ new_register (length below) (nodes_of below) level v heard
    top_register v heard size =
        let by : ℕ → ℕ → List ℕ → Reg =
        λ n d outputs.
        register_after n level (register_at d (state_of heard v)) outputs
        (map (λ s. (register_at d s).a) heard) in
        ap (λ n. by n m.depth (outputs_heard m level heard)) e.nodes
        ∙ (ap (λ d. by (nodes_of below) d (outputs_heard m level heard)) e.depth
        ∙ ap (by (nodes_of below) (length below)) (same_outputs heard size))

    -- the step below the top level
    inner_step : (v : ℕ) (heard : List State) → length heard ≡ group_size level (nodes_of below)
        → inner_state m level v heard ≡ cond (nat_lt v (level.blocks * nodes_of below))
        (step_in base below (v % nodes_of below)
        (block (nodes_of below) (v / nodes_of below) heard)) (zero_state (length below))
    inner_step v heard size =
        let n : ℕ = nodes_of below in
        ap (λ n. cond (nat_lt v (level.blocks * n)) (m.next (v % n) (block n (v / n) heard))
        (zero_state m.depth)) e.nodes
        ∙ (ap (λ d.
        cond (nat_lt v (level.blocks * n)) (m.next (v % n) (block n (v / n) heard))
        (zero_state d)) e.depth
        ∙ same_choice (nat_lt v (level.blocks * n)) (zero_state (length below))
        (λ test.
        let lt = ltb-true v (level.blocks * n) test in
        e.next (v % n) (block n (v / n) heard)
        (length-block level.blocks n (v / n) heard (omega arith)
        (div_below v n level.blocks (block_some level.blocks n v lt) lt))))

    pub explains_more : Explains (boosted m level) base (level ∷ below)
    explains_more = record {
      nodes = ap (group_size level) e.nodes;
      faults = refl;
      modulus = refl;
      bound = ap (λ t. t + span_of level) e.bound;
      depth = omega (arith, e.depth);
      shows = λ v s. ap (λ d. unwrap_or (register_at d s).a 0) e.depth;
      next =
          λ v heard size. ap₂ with_register (inner_step v heard size) (top_register v heard size);
    }

pub explains : (base : ℕ) (levels : List Level) → Explains (meaning_of base levels) base levels
explains base [] =
    record {
      nodes = refl;
      faults = refl;
      modulus = refl;
      bound = refl;
      depth = refl;
      shows = λ v s. refl;
      next = λ v heard size. refl;
    }
explains base (level ∷ below) =
    explains_more (meaning_of base below) base level below (explains base below)
