-- The laws of a boosted counter, from those of the counter below.
use Rattle.std.proofs.Common.{◌≡◌, ◌⊎◌, ℕ, ◌+◌, ◌*◌, ◌/◌, ◌%◌, ◌<◌, ◌≤◌, cond, List, [], ◌∷◌}
use Rattle.std.proofs.Common.{length, map, Option, Some, None, unwrap_or, IfSome, refl, sym, ap}
use Rattle.std.proofs.Common.{◌∙◌, subst, inl, inr, arith}
use Rattle.std.specs.Option.{option_map}
use Rattle.std.proofs.lemmas.Nat.{mul-le, div_below}
use Rattle.std.proofs.Math.Nat.{mod-lt, mod-eq_of_lt}
use Rattle.std.proofs.lemmas.Bool.{cases_lt, ltb-true, lt-ltb, cond_both}
use Rattle.std.specs.Prelude.{nat_lt}
use Rattle.std.proofs.lemmas.List.{take_at, take-take, take-replicate, get_or_at, get_or-take}
use Rattle.std.proofs.lemmas.List.{get_or-replicate, length-replicate, length_push}
use Rattle.std.proofs.lemmas.List.Elements.{All-weaker}
use Rattle.sync_types.specs.declared.states.Reg.{Reg}
use Rattle.sync_types.specs.States.{State, zero_register, zero_state, register_at}
use Rattle.construction.specs.Plans.{Level, group_size, span_of}
use Rattle.construction.specs.PhaseKing.{up}
use Rattle.construction.specs.Votes.{block}
use Rattle.counter_core.specs.Meanings.{Meaning, cut}
use Rattle.counter_core.specs.Laws.{Sizes, LowsAreWithin, StaysInRange, IgnoresFurther}
use Rattle.construction.specs.Steps.{with_register}
use Rattle.construction.proofs.Blocks.{length-block, All-block}
use Rattle.plan_laws.specs.Boosted.{level_register, inner_state, boosted, boosted_low, BoostedRange}
use Rattle.plan_laws.specs.Boosted.{StandsOn}

-- ---- values and lists

some_below : (o : Option ℕ) (c : ℕ) → 2 ≤ c → IfSome o (λ a. a < c) → unwrap_or o 0 < c
some_below None c two h = omega arith
some_below (Some x) c two h = h

up_below : (o : Option ℕ) (c : ℕ) → 2 ≤ c → IfSome (option_map (up c) o) (λ a. a < c)
up_below None c two = tt
up_below (Some x) c two = mod-lt (x + 1) (omega arith)

-- a number whose remainder by s is 0 is s at least
whole_by : (s m : ℕ) → m % s ≡ 0 → 0 < m → (m < s) ⊎ (s ≤ m) → s ≤ m
whole_by s m e some (inl lt) = absurd (let same : m % s ≡ m = mod-eq_of_lt lt in omega arith)
whole_by s m e some (inr le) = le

pub map_over : {X Y : Type 0} (g h : X → Y) (f : X → X) → ((x : X) → g (f x) ≡ h x) → (xs : List X)
    → map g (map f xs) ≡ map h xs
map_over g h f same [] = refl
map_over g h f same (x ∷ xs) =
    ap (λ y. y ∷ map g (map f xs)) (same x) ∙ ap (λ ys. h x ∷ ys) (map_over g h f same xs)

pub cut_with : (d : ℕ) (s : State) (r : Reg) → length s.registers ≡ d
    → cut d (with_register s r) ≡ s
cut_with d s r e = ap (λ rs. record { x = s.x; registers = rs }) (take_at s.registers (r ∷ []) d e)

pub register_with : (d : ℕ) (s : State) (r : Reg) → length s.registers ≡ d
    → register_at d (with_register s r) ≡ r
register_with d s r e = get_or_at s.registers r [] zero_register d e

-- to cut a state twice is to cut it to the lesser depth
pub cut_again : (d e : ℕ) (s : State) → d ≤ e → cut d (cut e s) ≡ cut d s
cut_again d e s le = ap (λ rs. record { x = s.x; registers = rs }) (take-take d e s.registers le)

pub register_cut : (d e : ℕ) (s : State) → d < e → register_at d (cut e s) ≡ register_at d s
register_cut d e s lt = get_or-take e s.registers d zero_register lt

-- in a block the inner state is the step in it
pub inner_is_next : (a : Meaning) (level : Level) (v : ℕ) (heard : List State)
    → v < level.blocks * a.nodes
    → inner_state a level v heard ≡ a.next (v % a.nodes) (block a.nodes (v / a.nodes) heard)
inner_is_next a level v heard lt =
    ap (λ b. cond b (a.next (v % a.nodes) (block a.nodes (v / a.nodes) heard)) (zero_state a.depth))
    (lt-ltb v (level.blocks * a.nodes) lt)

module _ (a : Meaning) (in_range : State → Type 0) (level : Level) (sizes : Sizes a in_range) where
  pub place_in_block : (v : ℕ) → v < level.blocks * a.nodes
      → (v / a.nodes < level.blocks) × (v % a.nodes < a.nodes)
  place_in_block v lt =
      let some = sizes.some in (div_below v a.nodes level.blocks some lt, mod-lt v some)

  -- what holds of the step in the block, and of zero, holds of the inner state
  pub by_inner : (P : State → Type 0) (v : ℕ) (heard : List State)
      → (v < level.blocks * a.nodes → P (a.next (v % a.nodes) (block a.nodes (v / a.nodes) heard)))
      → P (zero_state a.depth) → P (inner_state a level v heard)
  by_inner P v heard here there =
      cond_both (nat_lt v (level.blocks * a.nodes))
      (a.next (v % a.nodes) (block a.nodes (v / a.nodes) heard)) (zero_state a.depth) P
      (λ e. here (ltb-true _ _ e)) (λ e. there)

  pub deep_inner : (v : ℕ) (heard : List State) → length heard ≡ group_size level a.nodes
      → length (inner_state a level v heard).registers ≡ a.depth
  deep_inner v heard e =
      by_inner (λ s. length s.registers ≡ a.depth) v heard
      (λ lt. let p = place_in_block v lt in
      sizes.deep (v % a.nodes) (block a.nodes (v / a.nodes) heard) p.1
      (length-block level.blocks a.nodes (v / a.nodes) heard (omega arith) p.0))
      (length-replicate a.depth zero_register)

  pub boosted_sizes : StandsOn a level
      → Sizes (boosted a level) (BoostedRange in_range a.depth level.modulus)
  boosted_sizes on =
      let three = on.stands.blocks in
      let some = sizes.some in
      let n : 3 * a.nodes
      ≤ level.blocks * a.nodes = mul-le 3 a.nodes level.blocks a.nodes three (omega arith) in
      let two = sizes.two in
      let most = sizes.modulus in
      let whole = whole_by (span_of level) a.modulus on.stands.multiple (omega arith)
      (cases_lt a.modulus (span_of level)) in
      record {
        some = omega arith;
        most = on.most_nodes;
        few = on.stands.quorum;
        two = on.least_modulus;
        modulus = on.most_modulus;
        bound = let b = sizes.bound in omega arith;
        shallow = let d = sizes.shallow in omega arith;
        shown = λ v s lt r. some_below (register_at a.depth s).a level.modulus on.least_modulus r.1;
        deep = λ v heard lt e. length_push (inner_state a level v heard).registers
            (level_register a level v heard) ∙ ap (λ n. n + 1) (deep_inner v heard e);
      }

  pub boosted_lows : (low : ℕ → ℕ) → LowsAreWithin a low
      → LowsAreWithin (boosted a level) (boosted_low a level low)
  boosted_lows low within v lt = cond_both (nat_lt v (level.blocks * a.nodes)) (low (v % a.nodes))
      (a.depth + 1) (λ l. l ≤ a.depth + 1)
      (λ e. let p = place_in_block v (ltb-true _ _ e) in
      let h = within (v % a.nodes) p.1 in omega arith) (λ e. omega arith)

  pub boosted_stays_in_range : 2 ≤ level.modulus → StaysInRange a in_range
      → IgnoresFurther a in_range → in_range (zero_state a.depth)
      → StaysInRange (boosted a level) (BoostedRange in_range a.depth level.modulus)
  boosted_stays_in_range two stays ignores zero_in v heard lt e range =
      let inner = inner_state a level v heard in
      let r = level_register a level v heard in
      let deep = deep_inner v heard e in
      let lower : in_range inner =
      by_inner in_range v heard
      (λ within. let p = place_in_block v within in
      stays (v % a.nodes) (block a.nodes (v / a.nodes) heard) p.1
      (length-block level.blocks a.nodes (v / a.nodes) heard (omega arith) p.0)
      (All-block in_range a.nodes (v / a.nodes) heard
      (All-weaker (BoostedRange in_range a.depth level.modulus) in_range
      (λ s r. r.0) heard range)))
      zero_in in (
        ignores.from_cut (with_register inner r)
            (subst in_range (sym (cut_with a.depth inner r deep)) lower),
        subst (λ (r : Reg). IfSome r.a (λ a. a < level.modulus))
            (sym (register_with a.depth inner r deep)) (up_below _ level.modulus two),
      )

  pub boosted_zero_in_range : 2 ≤ level.modulus → IgnoresFurther a in_range
      → in_range (zero_state a.depth)
      → BoostedRange in_range a.depth level.modulus (zero_state (a.depth + 1))
  boosted_zero_in_range two ignores zero =
      let d = a.depth in (
        ignores.from_cut (zero_state (d + 1))
            (subst in_range
            (sym
            (ap (λ rs. record { x = 0; registers = rs })
            (take-replicate d (d + 1) zero_register (omega arith))))
            zero),
        subst (λ (r : Reg). IfSome r.a (λ a. a < level.modulus))
            (sym (get_or-replicate (d + 1) d zero_register zero_register (omega arith)))
            (omega arith),
      )
