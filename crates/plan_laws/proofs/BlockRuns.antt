-- A run of a boosted counter is, in each block, a run of the counter below.
use Rattle.std.proofs.Common.{ℕ, ◌+◌, ◌*◌, ◌/◌, ◌<◌, Bool, map, sym, ap, ◌∙◌, arith}
use Rattle.std.proofs.lemmas.Nat.{div-mul-add, mod-mul-add}
use Rattle.std.proofs.lemmas.List.{length-map, get_or-map}
use Rattle.std.proofs.lemmas.List.Elements.{All-weaker, All-map}
use Rattle.sync_types.specs.States.{State, zero_state}
use Rattle.construction.specs.Plans.{Level}
use Rattle.construction.specs.Votes.{block}
use Rattle.counter_core.specs.Meanings.{Meaning, cut}
use Rattle.counter_core.specs.Laws.{Sizes, IgnoresFurther}
use Rattle.counter_core.specs.RunsByPlace.{StepsByPlace, RunByPlace}
use Rattle.construction.proofs.Blocks.{block_room, length-block, get_or-block, All-block}
use Rattle.plan_laws.specs.Boosted.{level_register, inner_state, boosted, BoostedRange}
use Rattle.plan_laws.specs.BlockLaw.{BlockLaw}
use Rattle.plan_laws.proofs.BoostLaws.{inner_is_next, cut_again, cut_with, deep_inner}

module _ (a : Meaning) (in_range : State → Type 0) where
  -- the registers after those of a counter may be cut off a run
  cut_run : IgnoresFurther a in_range → (faulty : ℕ → Bool) (last : ℕ) (run : ℕ → ℕ → State)
      → RunByPlace a in_range faulty last run
      → RunByPlace a in_range faulty last (λ t v. cut a.depth (run t v))
  cut_run ignores faulty last run is = record {
    range = λ t v hi lt ok. ignores.into_cut (run t v) (is.range t v hi lt ok);
    steps = λ t v hi lt ok. let s = is.steps t v hi lt ok in record {
      heard = map (cut a.depth) s.heard;
      hears = record {
        size = length-map s.heard (cut a.depth) ∙ s.hears.size;
        range =
            All-map in_range (cut a.depth) s.heard
            (All-weaker in_range (λ s. in_range (cut a.depth s)) ignores.into_cut s.heard
            s.hears.range);
        honest =
            λ u ult uok. get_or-map (cut a.depth) s.heard u (zero_state 0) (zero_state 0)
            (let e = s.hears.size in omega arith)
            ∙ ap (cut a.depth) (s.hears.honest u ult uok);
      };
      step =
          cut_again a.depth a.depth (run (t + 1) v) (omega arith)
          ∙ (s.step ∙ sym (ignores.next v s.heard lt s.hears.size));
    };
  }

  module _ (level : Level) (sizes : Sizes a in_range) (modulus : ℕ) where
    -- a node's step is one in its block
    block_step : (faulty : ℕ → Bool) (old : ℕ → State) (i j : ℕ) (new : State) → i < level.blocks
        → j < a.nodes
        → StepsByPlace (boosted a level) (BoostedRange in_range a.depth modulus) faulty old
        (i * a.nodes + j) new
        → StepsByPlace a in_range (λ j. faulty (i * a.nodes + j)) (λ j. old (i * a.nodes + j)) j new
    block_step faulty old i j new ilt jlt s =
        let room = block_room level.blocks a.nodes i ilt in
        let v : ℕ = i * a.nodes + j in
        let deep = deep_inner a in_range level sizes v s.heard s.hears.size in
        record {
          heard = block a.nodes i s.heard;
          hears = record {
            size = length-block level.blocks a.nodes i s.heard
                (let e = s.hears.size in omega arith) ilt;
            range =
                All-block in_range a.nodes i s.heard
                (All-weaker (BoostedRange in_range a.depth modulus) in_range (λ s r. r.0) s.heard
                s.hears.range);
            honest =
                λ u ult ok. get_or-block a.nodes i u s.heard (zero_state 0) ult
                ∙ s.hears.honest (i * a.nodes + u) (omega arith) ok;
          };
          step = sym (cut_again a.depth (a.depth + 1) new (omega arith))
              ∙ (ap (cut a.depth) s.step
              ∙ (cut_with a.depth (inner_state a level v s.heard)
              (level_register a level v s.heard) deep
              ∙ (inner_is_next a level v s.heard (omega arith)
              ∙
              (ap (λ u. a.next u (block a.nodes (v / a.nodes) s.heard))
              (mod-mul-add i a.nodes j jlt)
              ∙ ap (λ u. a.next j (block a.nodes u s.heard)) (div-mul-add i a.nodes j jlt)))));
        }

    pub block_run : (faulty : ℕ → Bool) (last : ℕ) (run : ℕ → ℕ → State) (i : ℕ) → i < level.blocks
        → RunByPlace (boosted a level) (BoostedRange in_range a.depth modulus) faulty last run
        → RunByPlace a in_range (λ j. faulty (i * a.nodes + j)) last
        (λ t j. run t (i * a.nodes + j))
    block_run faulty last run i ilt is =
        let room = block_room level.blocks a.nodes i ilt in
        record {
          range = λ t j hi jlt ok. (is.range t (i * a.nodes + j) hi (omega arith) ok).0;
          steps =
              λ t j hi jlt ok. block_step faulty (run t) i j (run (t + 1) (i * a.nodes + j)) ilt jlt
              (is.steps t (i * a.nodes + j) hi (omega arith) ok);
        }

  pub block_law : Sizes a in_range → IgnoresFurther a in_range → (level : Level)
      → BlockLaw a in_range level
  block_law sizes ignores level faulty last run i ilt is =
      cut_run ignores (λ j. faulty (i * a.nodes + j)) last (λ t j. run t (i * a.nodes + j))
      (block_run level sizes level.modulus faulty last run i ilt is)
