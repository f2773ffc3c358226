-- Shifted states: shifted by nothing and twice, and what stays settled.
use Rattle.std.proofs.Common.{◌≡◌, ℕ, ◌+◌, ◌%◌, ◌<◌, ◌≤◌, Bool, true, false, cond, not, List}
use Rattle.std.proofs.Common.{length, map, get_or, Option, Some, None, refl, sym, ap, ap₂, ◌∙◌}
use Rattle.std.proofs.Common.{subst, arith}
use Rattle.std.specs.Prelude.{◌==◌, nat_lt, slice_index, IfSome}
use Rattle.std.specs.Option.{option_map}
use Rattle.std.proofs.Math.Nat.{mod-add-mod, mod-eq_of_lt}
use Rattle.std.proofs.lemmas.Bool.{true≢false}
use Rattle.std.proofs.lemmas.List.{get_or-take}
use Rattle.std.proofs.lemmas.List.FromFn.{fill_by_all, get_or-map-range_with_len}
use Rattle.sync_types.specs.declared.states.Reg.{Reg}
use Rattle.sync_types.specs.States.{State, zero_state, zero_register, register_at}
use Rattle.construction.specs.Plans.{Plan, plan_nodes, plan_depth, plan_low}
use Rattle.construction.specs.PhaseKing.{locked_at}
use Rattle.construction.specs.Runs.{IsRegister}
use Rattle.construction.specs.Steps.{state_of}
use Rattle.state_codec.specs.Shapes.{Fields, Shape, moduli_of, moduli_from, shape_of, fields_at}
use Rattle.plan_numbers.specs.Premises.{IsAccepted}
use Rattle.state_codec.specs.Ranges.{IsField, InRange}
use Rattle.state_codec.proofs.Lows.{modulus_at, length-moduli_from, fields_of_node}
use Rattle.state_codec.proofs.Plans.{length-moduli_of, all_of_accepted}
use Rattle.state_codec.proofs.RegisterSteps.{state_is}
use Rattle.shared_board.specs.Groups.{Group, groups_of, nodes_in}
use Rattle.shared_board.proofs.Places.{groups_within, groups_low}
use Rattle.shared_board.proofs.GroupStretches.{same_range}
use Rattle.counter_core.specs.Meanings.{cut}
use Rattle.plan_laws.proofs.Ranges.{state_of-cut}
use Rattle.tower.specs.Settled.{IsSettledGroup, IsSettled}
use Rattle.adversary_script.specs.Lies.{AreStates, shifted_register, shifted}
use Rattle.round_runner.specs.Skipping.{grown}
use Rattle.round_runner.proofs.SettledSteps.{shifted_locked}

abbrev later : (by m : ℕ) → Reg → Reg
later by m r = record { a = option_map (λ a. (a + by) % m) r.a; d = r.d }

reg_as : (r : Reg) (a : Option ℕ) → a ≡ r.a → record { a = a; d = r.d } ≡ r
reg_as r a is = ap (λ (a : Option ℕ). let x : Reg = record { a = a; d = r.d } in x) is

-- ---- by nothing

value_stays : (m : ℕ) (a : Option ℕ) → IfSome a (λ a. a < m)
    → option_map (λ a. (a + 0) % m) a ≡ a
value_stays m None lt = refl
value_stays m (Some a) lt =
    let same : a + 0 ≡ a = omega arith in
    ap (λ n. Some (n % m)) same ∙ ap Some (mod-eq_of_lt lt)

register_stays : (m : ℕ) (r : Reg) (b : Bool) → IsRegister (not b) m r
    → cond b zero_register (later 0 m r) ≡ r
register_stays m r true is = sym is
register_stays m r false is = reg_as r _ (value_stays m r.a is)

pub shifted_none : (fields : Fields) (s : State) → InRange fields s → shifted 0 fields s ≡ s
shifted_none fields s range =
    let same : s.x + 0 ≡ s.x = omega arith in
    sym (state_is s _ _
    (sym (ap (λ n. n % fields.base) same ∙ mod-eq_of_lt range.x))
    (fill_by_all (λ i. shifted_register 0 (slice_index fields.moduli i) (register_at i s))
    s.registers (length fields.moduli) zero_register range.depth
    (λ i lt. sym (register_stays (slice_index fields.moduli i) (register_at i s)
    (slice_index fields.moduli i == 0) (range.values i lt)))))

-- ---- twice

sum_twice : (a d m : ℕ) → ((a + d) % m + 1) % m ≡ (a + (d + 1)) % m
sum_twice a d m =
    let same : a + d + 1 ≡ a + (d + 1) = omega arith in
    mod-add-mod (a + d) m 1 ∙ ap (λ n. n % m) same

value_twice : (d m : ℕ) (a : Option ℕ)
    → option_map (λ a. (a + 1) % m) (option_map (λ a. (a + d) % m) a)
    ≡ option_map (λ a. (a + (d + 1)) % m) a
value_twice d m None = refl
value_twice d m (Some a) = ap Some (sum_twice a d m)

register_twice : (d m : ℕ) (r : Reg) (b : Bool)
    → cond b zero_register (later 1 m (cond b zero_register (later d m r)))
    ≡ cond b zero_register (later (d + 1) m r)
register_twice d m r true = refl
register_twice d m r false = ap (λ (a : Option ℕ). let x : Reg = record { a = a; d = r.d } in x)
    (value_twice d m r.a)

pub shifted_twice : (d : ℕ) (fields : Fields) (s : State)
    → shifted 1 fields (shifted d fields s) ≡ shifted (d + 1) fields s
shifted_twice d fields s =
    let n : ℕ = length fields.moduli in
    let once : ℕ → Reg =
    λ i. shifted_register d (slice_index fields.moduli i) (register_at i s) in
    state_is (shifted 1 fields (shifted d fields s)) _ _ (sum_twice s.x d fields.base)
    (same_range
    (λ i. shifted_register 1 (slice_index fields.moduli i)
    (register_at i (shifted d fields s)))
    (λ i. shifted_register (d + 1) (slice_index fields.moduli i) (register_at i s)) n 0
    (λ i from lt.
    ap (shifted_register 1 (slice_index fields.moduli i))
    (get_or-map-range_with_len once 0 n i i zero_register (omega (arith, lt)) (omega arith))
    ∙ register_twice d (slice_index fields.moduli i) (register_at i s)
    (slice_index fields.moduli i == 0)))

-- ---- what stays settled

-- a register that is locked is one that its node has
locked_has : (low h a : ℕ) (moduli : List ℕ) → h < length moduli
    → IsField (get_or (moduli_from low moduli) h 0) (locked_at a)
    → get_or (moduli_from low moduli) h 0 ≡ get_or moduli h 0
locked_has low h a moduli lt field = by (nat_lt (h + 1) low) refl where
  by : (b : Bool) → nat_lt (h + 1) low ≡ b
      → get_or (moduli_from low moduli) h 0 ≡ get_or moduli h 0
  by true e =
      let none : get_or (moduli_from low moduli) h 0 ≡ 0 = modulus_at low moduli h lt
      ∙ ap (λ b. cond b 0 (get_or moduli h 0)) e in
      let zero : locked_at a ≡ zero_register = subst (λ m. IsField m (locked_at a)) none field in
      absurd (true≢false (ap (λ (r : Reg). r.d) zero))
  by false e = modulus_at low moduli h lt ∙ ap (λ b. cond b 0 (get_or moduli h 0)) e

module _ (plan : Plan) (shape : Shape) (nodes : ℕ) (faulty : List ℕ) (config : List State) (d : ℕ)
    (accepted : IsAccepted plan) (same : shape ≡ shape_of plan) (size : nodes ≡ plan_nodes plan)
    (range : AreStates nodes shape config) (settled : IsSettled plan faulty config) where
  abbrev moduli : List ℕ
  moduli = moduli_of plan.levels

  register_grown : (h u a : ℕ) → u < nodes → h < plan_depth plan
      → register_at h (state_of config u) ≡ locked_at a
      → register_at h (state_of (grown shape nodes d config) u)
      ≡ locked_at ((a + d) % get_or moduli h 0)
  register_grown h u a lt less locked =
      let fields : Fields = fields_at shape u in
      let low : ℕ = plan_low plan u in
      let own : fields.moduli ≡ moduli_from low moduli =
      ap (λ (s : Shape). (fields_at s u).moduli) same
      ∙ ap (λ (f : Fields). f.moduli) (fields_of_node plan moduli u (omega (arith, lt, size))) in
      let inside : h < length moduli = omega (arith, less, length-moduli_of plan.levels) in
      let there : h < length fields.moduli =
      omega (arith, inside, ap length own, length-moduli_from low moduli) in
      let two = ((all_of_accepted plan accepted).moduli h 0 inside).0 in
      let field = subst (λ ms. IsField (get_or ms h 0) (locked_at a)) own
      (subst (IsField (get_or fields.moduli h 0)) locked ((range u lt).values h there)) in
      let modulus : get_or fields.moduli h 0 ≡ get_or moduli h 0 =
      ap (λ ms. get_or ms h 0) own ∙ locked_has low h a moduli inside field in
      ap (register_at h)
      (get_or-map-range_with_len (λ v. shifted d (fields_at shape v) (state_of config v)) 0 nodes u
      u (zero_state 0) lt (omega arith))
      ∙ (get_or-map-range_with_len
      (λ i. shifted_register d (slice_index fields.moduli i) (register_at i (state_of config u))) 0
      (length fields.moduli) h h zero_register there (omega arith)
      ∙ (ap₂ (shifted_register d) modulus locked
      ∙ shifted_locked d (get_or moduli h 0) a two))

  pub settled_stays : IsSettled plan faulty (grown shape nodes d config)
  settled_stays = λ i none lt.
      let g : Group = get_or (groups_of plan.levels 0) i none in
      let is : IsSettledGroup faulty config g = settled i none lt in
      let fits = groups_within plan.levels 0 i none lt in
      let less = groups_low plan.levels 0 i none lt in
      let there : (u : ℕ) → g.first ≤ u → u < g.first + nodes_in g
      → register_at g.below (state_of (grown shape nodes d config) u)
      ≡ locked_at ((is.value + d) % get_or moduli g.below 0) =
      λ u from to. register_grown g.below u is.value (omega (arith, to, fits, size)) less
      (is.liars_too u from to) in
      record {
        value = (is.value + d) % get_or moduli g.below 0;
        locked = record {
          quorum = is.locked.quorum;
          few = is.locked.few;
          locked = λ u from to correct. there u from to;
        };
        liars_too = there;
      }

-- what is settled when it is cut to the registers of the levels is settled
pub uncut_settled : (plan : Plan) (faulty : List ℕ) (config : List State)
    → IsSettled plan faulty (map (cut (plan_depth plan)) config) → IsSettled plan faulty config
uncut_settled plan faulty config settled = λ i none lt.
    let d : ℕ = plan_depth plan in
    let g : Group = get_or (groups_of plan.levels 0) i none in
    let is : IsSettledGroup faulty (map (cut d) config) g = settled i none lt in
    let less = groups_low plan.levels 0 i none lt in
    let whole : (u : ℕ) → register_at g.below (state_of config u)
    ≡ register_at g.below (state_of (map (cut d) config) u) =
    λ u. sym (ap (register_at g.below) (state_of-cut d config u)
    ∙ get_or-take d (state_of config u).registers g.below zero_register less) in
    record {
      value = is.value;
      locked = record {
        quorum = is.locked.quorum;
        few = is.locked.few;
        locked = λ u from to correct. whole u ∙ is.locked.locked u from to correct;
      };
      liars_too = λ u from to. whole u ∙ is.liars_too u from to;
    }
