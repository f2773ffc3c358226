-- Registers after those of a boosted counter matter to nothing, if those after the ones of the
-- counter below don't.
use Rattle.std.proofs.Common.{◌≡◌, ℕ, ◌+◌, ◌*◌, ◌/◌, ◌%◌, ◌<◌, ◌≤◌, List, length, map, unwrap_or}
use Rattle.std.proofs.Common.{IfSome, sym, ap, ◌∙◌, subst, arith}
use Rattle.std.proofs.lemmas.List.{length-map, get_or-map}
use Rattle.std.proofs.lemmas.List.FromFn.{length-map-range_with_len, get_or-map-range_with_len}
use Rattle.std.proofs.lemmas.List.FromFn.{fill_by_all}
use Rattle.sync_types.specs.declared.states.Reg.{Reg}
use Rattle.sync_types.specs.States.{State, zero_state, register_at}
use Rattle.construction.specs.Plans.{Level}
use Rattle.construction.specs.Steps.{state_of, register_after, with_register}
use Rattle.construction.specs.Votes.{block}
use Rattle.counter_core.specs.Meanings.{Meaning, cut}
use Rattle.counter_core.specs.Laws.{Sizes, IgnoresFurther}
use Rattle.std.specs.Prelude.{nat_lt}
use Rattle.std.proofs.lemmas.Bool.{ltb-true}
use Rattle.construction.proofs.Choices.{same_choice}
use Rattle.construction.proofs.Blocks.{length-block, block-map}
use Rattle.plan_laws.specs.Boosted.{outputs_heard, values_heard, level_register, inner_state}
use Rattle.plan_laws.specs.Boosted.{boosted, BoostedRange}
use Rattle.plan_laws.proofs.BoostLaws.{map_over, cut_again, register_cut, place_in_block}

module _ (a : Meaning) (in_range : State → Type 0) (level : Level) (sizes : Sizes a in_range)
    (ignores : IgnoresFurther a in_range) where
  -- heard states with at least one more register
  more : List State → List State
  more heard = map (cut (a.depth + 1)) heard

  cut_more : (s : State) → cut a.depth (cut (a.depth + 1) s) ≡ cut a.depth s
  cut_more s = cut_again a.depth (a.depth + 1) s (omega arith)

  state_more : (heard : List State) (u : ℕ) → u < length heard
      → state_of (more heard) u ≡ cut (a.depth + 1) (state_of heard u)
  unfolding more
  state_more heard u lt = get_or-map (cut (a.depth + 1)) heard u (zero_state 0) (zero_state 0) lt

  shows_more : (u : ℕ) (s : State) → u < a.nodes → a.shows u (cut (a.depth + 1) s) ≡ a.shows u s
  shows_more u s lt =
      sym (ignores.shows u (cut (a.depth + 1) s) lt)
      ∙ (ap (a.shows u) (cut_more s) ∙ ignores.shows u s lt)

  -- the step in the block
  block_more : (v : ℕ) (heard : List State) → v < level.blocks * a.nodes
      → level.blocks * a.nodes ≤ length heard
      → a.next (v % a.nodes) (block a.nodes (v / a.nodes) (more heard))
      ≡ a.next (v % a.nodes) (block a.nodes (v / a.nodes) heard)
  unfolding more
  block_more v heard lt e =
      let p = place_in_block a in_range level sizes v lt in
      let u : ℕ = v % a.nodes in
      let own = block a.nodes (v / a.nodes) heard in
      let size : length own
      ≡ a.nodes = length-block level.blocks a.nodes (v / a.nodes) heard e p.0 in
      ap (a.next u) (block-map (cut (a.depth + 1)) a.nodes (v / a.nodes) heard)
      ∙
      (sym
      (ignores.next u (map (cut (a.depth + 1)) own) p.1
      (length-map own (cut (a.depth + 1)) ∙ size))
      ∙ (ap (a.next u) (map_over (cut a.depth) (cut a.depth) (cut (a.depth + 1)) cut_more own)
      ∙ ignores.next u own p.1 size))

  inner_more : (v : ℕ) (heard : List State) → level.blocks * a.nodes ≤ length heard
      → inner_state a level v (more heard) ≡ inner_state a level v heard
  inner_more v heard e =
      same_choice (nat_lt v (level.blocks * a.nodes)) (zero_state a.depth)
      (λ test. block_more v heard (ltb-true _ _ test) e)

  outputs_more : (heard : List State) → level.blocks * a.nodes ≤ length heard
      → outputs_heard a level (more heard) ≡ outputs_heard a level heard
  outputs_more heard e =
      let some = sizes.some in
      let n : ℕ = level.blocks * a.nodes in
      let by : ℕ → ℕ = λ u. a.shows (u % a.nodes) (state_of (more heard) u) in
      fill_by_all (λ u. a.shows (u % a.nodes) (state_of heard u))
      (outputs_heard a level (more heard)) n 0 (length-map-range_with_len by 0 n)
      (λ u lt. get_or-map-range_with_len by 0 n u u 0 lt (omega arith)
      ∙
      (ap (a.shows (u % a.nodes)) (state_more heard u (omega arith))
      ∙ shows_more (u % a.nodes) (state_of heard u) (omega arith)))

  values_more : (heard : List State) → values_heard a (more heard) ≡ values_heard a heard
  unfolding more
  values_more heard =
      map_over (λ s. (register_at a.depth s).a) (λ s. (register_at a.depth s).a) (cut (a.depth + 1))
      (λ s. ap (λ (r : Reg). r.a) (register_cut a.depth (a.depth + 1) s (omega arith))) heard

  own_more : (v : ℕ) (heard : List State) → v < length heard
      → register_at a.depth (state_of (more heard) v) ≡ register_at a.depth (state_of heard v)
  own_more v heard lt =
      ap (register_at a.depth) (state_more heard v lt)
      ∙ register_cut a.depth (a.depth + 1) (state_of heard v) (omega arith)

  register_more : (v : ℕ) (heard : List State) → v < length heard
      → level.blocks * a.nodes ≤ length heard
      → level_register a level v (more heard) ≡ level_register a level v heard
  register_more v heard lt e =
      ap
      (λ own. register_after a.nodes level own (outputs_heard a level (more heard))
      (values_heard a (more heard)))
      (own_more v heard (omega arith))
      ∙
      (ap
      (λ outputs. register_after a.nodes level (register_at a.depth (state_of heard v))
      outputs (values_heard a (more heard)))
      (outputs_more heard e)
      ∙ ap
      (register_after a.nodes level (register_at a.depth (state_of heard v))
      (outputs_heard a level heard))
      (values_more heard))

  pub boosted_ignores_further : (modulus : ℕ)
      → IgnoresFurther (boosted a level) (BoostedRange in_range a.depth modulus)
  unfolding more
  boosted_ignores_further modulus = record {
    next = λ v heard lt e.
        ap (λ s. with_register s (level_register a level v (more heard)))
        (inner_more v heard (omega arith))
        ∙ ap (with_register (inner_state a level v heard))
        (register_more v heard (omega arith) (omega arith));
    shows =
        λ v s lt. ap (λ (r : Reg). unwrap_or r.a 0)
        (register_cut a.depth (a.depth + 1) s (omega arith));
    into_cut = λ s r. (
      ignores.from_cut (cut (a.depth + 1) s)
          (subst in_range (sym (cut_more s)) (ignores.into_cut s r.0)),
      subst (λ (r : Reg). IfSome r.a (λ x. x < modulus))
          (sym (register_cut a.depth (a.depth + 1) s (omega arith))) r.1,
    );
    from_cut = λ s r. (
      ignores.from_cut s (subst in_range (cut_more s) (ignores.into_cut (cut (a.depth + 1) s) r.0)),
      subst (λ (r : Reg). IfSome r.a (λ x. x < modulus))
          (register_cut a.depth (a.depth + 1) s (omega arith)) r.1,
    );
  }
