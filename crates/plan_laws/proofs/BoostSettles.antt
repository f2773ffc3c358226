-- A boosted counter settles if the counter below does.
use Rattle.std.proofs.Common.{◌≡◌, ◌⊎◌, ℕ, ◌+◌, ◌*◌, ◌%◌, ◌<◌, ◌≤◌, Bool, List, length, None}
use Rattle.std.proofs.Common.{unwrap_or, sym, ap, ◌∙◌, inl, inr, arith}
use Rattle.std.proofs.lemmas.Nat.{mod-mul-add}
use Rattle.std.proofs.lemmas.Bool.{cases_lt}
use Rattle.std.proofs.lemmas.List.{length-map, get_or-map}
use Rattle.std.proofs.lemmas.List.FromFn.{length-map-range_with_len, get_or-map-range_with_len}
use Rattle.sync_types.specs.declared.states.Reg.{Reg}
use Rattle.sync_types.specs.States.{State, zero_state, register_at}
use Rattle.counting.specs.Places.{places}
use Rattle.construction.specs.Plans.{Level, group_size, span_of}
use Rattle.construction.specs.PhaseKing.{up}
use Rattle.construction.specs.Steps.{state_of, register_after}
use Rattle.phase_king.specs.Hearing.{AllLocked}
use Rattle.counter_core.specs.Meanings.{Meaning, cut}
use Rattle.counter_core.specs.Runs.{Settles}
use Rattle.counter_core.specs.RunsByPlace.{RunByPlace, SettlesByPlace}
use Rattle.counter_core.specs.Laws.{Sizes}
use Rattle.counter_core.proofs.ListsAndPlaces.{settles_over_lists, settles_by_place}
use Rattle.plan_laws.specs.Hearing.{RegistersStep}
use Rattle.plan_laws.specs.Level.{faults_in, BlockCounts, StaysLocked}
use Rattle.plan_laws.specs.Boosted.{outputs_heard, values_heard, level_register, inner_state}
use Rattle.plan_laws.specs.Boosted.{boosted, BoostedRange, StandsOn}
use Rattle.plan_laws.proofs.BoostLaws.{register_cut, register_with, deep_inner}
use Rattle.plan_laws.proofs.BlockRuns.{block_run}
use Rattle.plan_laws.specs.Explained.{Explains, IsExplained}
use Rattle.plan_laws.proofs.ExplainedLevels.{explained_locks, span_is_explained}
use Rattle.plan_laws.proofs.Settles.{settles}
use Rattle.plan_laws.proofs.Locked.{stays_locked}

module _ (a : Meaning) (in_range : State → Type 0) (level : Level) (sizes : Sizes a in_range) where
  -- a node's new register
  new_register : (v : ℕ) (heard : List State) (new : State)
      → length heard ≡ group_size level a.nodes
      → cut (a.depth + 1) new ≡ (boosted a level).next v heard
      → register_at a.depth new ≡ level_register a level v heard
  new_register v heard new e step =
      sym (register_cut a.depth (a.depth + 1) new (omega arith)) ∙ (ap (register_at a.depth) step
      ∙ register_with a.depth (inner_state a level v heard) (level_register a level v heard)
      (deep_inner a in_range level sizes v heard e))

  module _ (faulty : ℕ → Bool) (last : ℕ) (run : ℕ → ℕ → State)
      (is : RunByPlace (boosted a level) (BoostedRange in_range a.depth level.modulus) faulty last
      run)
    where
      -- the inner outputs of the group's nodes
      abbrev outputs : ℕ → ℕ → ℕ
      outputs t u = a.shows (u % a.nodes) (run t u)

      -- the level's registers
      abbrev registers : ℕ → ℕ → Reg
      registers t u = register_at a.depth (run t u)

      registers_step : (t : ℕ)
          → RegistersStep level a.nodes (up level.modulus) faulty t last outputs registers
      registers_step t = λ r v lo hi lt ok.
          let s = is.steps r v hi lt ok in
          let e = s.hears.size in
          let n : ℕ = level.blocks * a.nodes in
          let by : ℕ → ℕ = λ u. a.shows (u % a.nodes) (state_of s.heard u) in
          record {
            heard = outputs_heard a level s.heard;
            hears = record {
              size = length-map-range_with_len by 0 n;
              honest = λ u ult uok. get_or-map-range_with_len by 0 n u u 0 ult (omega arith)
                  ∙ ap (a.shows (u % a.nodes)) (s.hears.honest u (omega arith) uok);
            };
            obeys = record {
              heard = values_heard a s.heard;
              hears = record {
                size = length-map s.heard (λ s. (register_at a.depth s).a) ∙ s.hears.size;
                honest =
                    λ u ult uok. get_or-map (λ s. (register_at a.depth s).a) s.heard u
                    (zero_state 0)
                    None (omega arith)
                    ∙ ap (λ s. (register_at a.depth s).a) (s.hears.honest u ult uok);
              };
              step = new_register v s.heard (run (r + 1) v) s.hears.size s.step
                  ∙ ap
                  (λ old. register_after a.nodes level (register_at a.depth old)
                  (outputs_heard a level s.heard) (values_heard a s.heard))
                  (s.hears.honest v lt ok);
            };
          }

      -- from a locked configuration on, the level's registers stay locked
      pub top_stays_locked : StandsOn a level
          → places faulty (group_size level a.nodes) ≤ level.faults → (t value : ℕ)
          → AllLocked (group_size level a.nodes) faulty (λ v. register_at a.depth (run t v)) value
          → StaysLocked (group_size level a.nodes) (up level.modulus) faulty t last
          (λ t v. register_at a.depth (run t v))
      top_stays_locked on few t value locked =
          stays_locked level a.nodes (up level.modulus) faulty on.stands.quorum few t last outputs
          registers (registers_step t) value locked

      -- what is explained is locked
      pub top_explained_locks : StandsOn a level
          → places faulty (group_size level a.nodes) ≤ level.faults
          → (t b s k : ℕ)
          → Explains level a.nodes a.faults faulty last
          (λ t u. a.shows (u % a.nodes) (run t u)) t b s
          k
          → (value : ℕ) × AllLocked (group_size level a.nodes) faulty
          (λ v. register_at a.depth (run (s + 3) v)) value
      top_explained_locks on few t b s k why =
          explained_locks level a.nodes a.faults a.modulus (up level.modulus) faulty on.stands
          sizes.few few 0 last outputs registers (registers_step 0) t b s k (omega arith) why

      module _ (on : StandsOn a level) (below : SettlesByPlace a in_range) where
        -- a block with few faulty nodes counts for a span
        block_counts : a.bound + span_of level ≤ last → (i : ℕ) → i < level.blocks
            → faults_in a.nodes faulty i ≤ a.faults
            → BlockCounts level a.nodes a.modulus a.bound faulty outputs i
        block_counts long i ilt few =
            let part = block_run a in_range level sizes level.modulus faulty last run i ilt is in
            let counts = below (λ j. faulty (i * a.nodes + j)) last (λ t j. run t (i * a.nodes + j))
            few part in
            record {
              output = counts.output;
              counts = record { grows = λ r lo hi. counts.grows r lo (omega arith) };
              common =
                  λ r j lo hi jlt ok. ap (λ u. a.shows u (run r (i * a.nodes + j)))
                  (mod-mul-add i a.nodes j jlt)
                  ∙ counts.shows r j lo (omega arith) jlt ok;
            }

        -- the span that ends at the bound is explained
        pub top_is_explained : places faulty (group_size level a.nodes) ≤ level.faults
            → a.bound + span_of level ≤ last
            → IsExplained level a.nodes a.faults faulty last
            (λ t u. a.shows (u % a.nodes) (run t u)) a.bound (a.bound + span_of level)
        top_is_explained few long =
            let some = sizes.some in
            span_is_explained level a.nodes a.faults a.modulus faulty on.stands few (omega arith)
            a.bound last outputs long (block_counts long)

        settles_by : places faulty (group_size level a.nodes) ≤ level.faults
            → (last < a.bound + span_of level) ⊎ (a.bound + span_of level ≤ last)
            → StaysLocked (group_size level a.nodes) (up level.modulus) faulty
            (a.bound + span_of level) last registers
        settles_by few (inl short) =
            record {
              value = λ r. 0;
              locked = λ r lo hi. absurd (omega arith);
              grows = λ r lo hi. absurd (omega arith);
            }
        settles_by few (inr long) =
            settles level a.nodes a.faults a.modulus (up level.modulus) faulty on.stands
            sizes.few few
            a.bound last outputs registers (registers_step a.bound) (block_counts long)

        -- from the bound on, the level's registers are locked
        pub top_settles : places faulty (group_size level a.nodes) ≤ level.faults
            → StaysLocked (group_size level a.nodes) (up level.modulus) faulty
            (a.bound + span_of level) last (λ t v. register_at a.depth (run t v))
        top_settles few = settles_by few (cases_lt last (a.bound + span_of level))

  pub boosted_settles_by_place : StandsOn a level → SettlesByPlace a in_range
      → SettlesByPlace (boosted a level) (BoostedRange in_range a.depth level.modulus)
  boosted_settles_by_place on below faulty last run few is =
      let s = top_settles faulty last run is on below few in
      record {
        output = s.value;
        shows = λ r v lo hi lt ok. ap (λ (g : Reg). unwrap_or g.a 0) (s.locked r lo hi v lt ok);
        grows = λ r lo hi. s.grows r lo hi;
      }

  pub boosted_settles : StandsOn a level → Settles a in_range
      → Settles (boosted a level) (BoostedRange in_range a.depth level.modulus)
  boosted_settles on below =
      settles_over_lists (boosted a level) (BoostedRange in_range a.depth level.modulus)
      (boosted_settles_by_place on (settles_by_place a in_range below))
