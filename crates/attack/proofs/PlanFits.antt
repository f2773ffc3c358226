-- An accepted plan is a machine on which a search finds an attack: each state takes some bits, and
-- not many.
use Rattle.std.proofs.Common.{◌≡◌, ℕ, zero, suc, ◌+◌, ◌-◌, ◌*◌, ◌^◌, ◌<◌, ◌≤◌, Bool, true, false}
use Rattle.std.proofs.Common.{cond}
use Rattle.std.proofs.Common.{List, [], ◌∷◌, length, get_or, All, refl, sym, ap, subst, ◌∙◌, arith}
use Rattle.std.specs.Prelude.{nat_lt, ◌==◌}
use Rattle.std.proofs.lemmas.Bool.{le-ltb, ne_eqb}
use Rattle.std.proofs.lemmas.List.FromFn.{length-map-range_with_len}
use Rattle.construction.specs.Widths.{width}
use Rattle.construction.specs.Plans.{Plan, plan_nodes, plan_low}
use Rattle.construction.proofs.Ranges.{low_most}
use Rattle.plan_numbers.specs.Premises.{IsAccepted}
use Rattle.plan_numbers.proofs.Accepted.{accepted_depth}
use Rattle.state_codec.specs.Shapes as boosting
use Rattle.state_codec.specs.Shapes.{Fields, IsFields, AreAll, Shape, IsShape, fields_at}
use Rattle.state_codec.specs.Shapes.{fields_from, moduli_from, moduli_of, all_of, register_bits}
use Rattle.state_codec.specs.Shapes.{registers_bits, bits_in}
use Rattle.state_codec.proofs.BitLengths.{width_fits, width_short}
use Rattle.state_codec.proofs.Lows.{depth_at, fields_limited, length-moduli_from, modulus_at}
use Rattle.state_codec.proofs.Lows.{fields_of_node}
use Rattle.state_codec.proofs.Plans.{length-moduli_of, all_of_accepted, over_accepted}
use Rattle.state_codec.proofs.RegisterSteps.{registers_bits-cons, registers_bits_of_none}
use Rattle.adversary_script.specs.Writable.{FitsLines}
use Rattle.plan_machine.proofs.Sound as levels
use Rattle.halving_plan.proofs.Sound as halves
use Rattle.halving_plan.specs.Plans.{HalvingNumbers, IsAccepted as IsAcceptedHalving}
use Rattle.halving_texts.specs.HalvingShapes as halving
use Rattle.halving_texts.proofs.PlanBits.{some_bits_at, few_registers}
use Rattle.halving_texts.proofs.Shaped as shaped
use Rattle.attack.specs.declared.plans.AnyPlan.{AnyPlan}
use Rattle.attack.specs.declared.plans.AnyPlan.TheVariants as plan
use Rattle.attack.specs.FreshLaws.{IsAttacked}
use Rattle.attack.specs.PlanTexts.{machine_in, shape_in, IsAcceptedPlan}
use Rattle.attack.proofs.PlanShapes.{boosting_fits, halving_fit}

-- ---- not many bits

narrow : (base : ℕ) → base ≤ 2 ^ 40 → 1 ≤ base → width base ≤ 41
narrow zero most some = absurd (omega (arith, some))
narrow (suc n) most some =
    let same : n + 1 ≡ suc n = omega arith in
    subst (λ k. width k ≤ 41) same (width_short n (omega (arith, most)))

bits_by : (none : Bool) (bits : ℕ) → bits ≤ 41 → cond none 0 (bits + 1) ≤ 42
bits_by true bits most = omega arith
bits_by false bits most = omega (arith, most)

few_bits : (moduli : List ℕ) → All (λ c. c ≤ 2 ^ 40) moduli
    → registers_bits moduli ≤ 42 * length moduli
few_bits [] limits = omega (arith, registers_bits_of_none)
few_bits (c ∷ moduli) limits =
    let here : register_bits c ≤ 42 =
    bits_by (c == 0) (width (c + 1)) (width_short c (limits 0 0 (omega arith))) in
    let rest = few_bits moduli (λ k d lt. limits (suc k) d (omega (arith, lt))) in
    omega (arith, registers_bits-cons c moduli, here, rest)

-- a shape with few registers, of which each node has some bits
shape_fits : (nodes : ℕ) (shape : Shape) → IsShape shape → shape.depth ≤ 340
    → ((v : ℕ) → v < nodes → 0 < bits_in (fields_at shape v)) → FitsLines nodes shape
shape_fits nodes shape sound deep some v lt =
    let own = fields_at shape v in
    let limits = fields_limited shape v sound in
    let base = narrow own.base limits.most limits.least in
    let registers = few_bits own.moduli limits.moduli in
    let least = some v lt in
    let most : bits_in own ≤ 14321 = omega (arith, base, registers, depth_at shape v, deep) in
    (omega (arith, least), omega (arith, most))

-- ---- some bits of a boosting plan's states

some_by : (n bits : ℕ) → 1 ≤ n → n < 2 ^ bits → 0 < bits
some_by n zero some lt = absurd (omega (arith, some, lt))
some_by n (suc bits) some lt = omega arith

wide : (base : ℕ) → 2 ≤ base → base ≤ 2 ^ 40 → 0 < width base
wide zero two most = absurd (omega (arith, two))
wide (suc n) two most =
    let same : n + 1 ≡ suc n = omega arith in
    subst (λ k. 0 < width k) same
    (some_by n (width (n + 1)) (omega (arith, two)) (width_fits n (omega (arith, most))))

one_counts : (moduli : List ℕ) (i : ℕ) → i < length moduli → 2 ≤ get_or moduli i 0
    → 0 < registers_bits moduli
one_counts [] i lt two = absurd (omega (arith, lt))
one_counts (c ∷ moduli) zero lt two =
    let other : (c == 0) ≡ false = ne_eqb c 0 (λ none. omega (arith, two, none)) in
    let some : 0 < register_bits c =
    subst (λ none. 0 < cond none 0 (width (c + 1) + 1)) (sym other) (omega arith) in
    omega (arith, registers_bits-cons c moduli, some)
one_counts (c ∷ moduli) (suc i) lt two =
    omega (arith, registers_bits-cons c moduli, one_counts moduli i (omega (arith, lt)) two)

module _ (all : Fields) (sound : AreAll all) where
  -- a node of low 0 has the number, and one of another low the last register
  some_bits : (low : ℕ) → low ≤ length all.moduli → 0 < bits_in (fields_from all low)
  some_bits zero within = omega (arith, wide all.base sound.least sound.most)
  some_bits (suc low) within =
      let i = length all.moduli - 1 in
      let lt : i < length all.moduli = omega (arith, within) in
      let there : nat_lt (i + 1) (suc low) ≡ false =
      le-ltb (i + 1) (suc low) (omega (arith, within)) in
      let seen : get_or (moduli_from (suc low) all.moduli) i 0 ≡ get_or all.moduli i 0 =
      modulus_at (suc low) all.moduli i lt
      ∙ ap (λ early. cond early 0 (get_or all.moduli i 0)) there in
      let two = (sound.moduli i 0 lt).0 in
      let some = one_counts (moduli_from (suc low) all.moduli) i
      (omega (arith, length-moduli_from (suc low) all.moduli, lt)) (omega (arith, seen, two)) in
      omega (arith, some)

bits_at : (own : Plan) → IsAccepted own → (v : ℕ) → v < plan_nodes own
    → 0 < bits_in (fields_at (boosting.shape_of own) v)
bits_at own accepted v lt =
    subst (λ (fields : Fields). 0 < bits_in fields)
    (sym (fields_of_node own (moduli_of own.levels) v lt))
    (some_bits (all_of own) (all_of_accepted own accepted) (plan_low own v)
    (omega (arith, low_most own.levels v, length-moduli_of own.levels)))

-- ---- both constructions

levels_fit : (own : Plan) → IsAccepted own
    → IsAttacked (machine_in (plan.Boosting own)) (boosting.shape_of own)
levels_fit own accepted =
    let sound : IsShape (boosting.shape_of own) =
    over_accepted own (moduli_of own.levels) accepted (all_of_accepted own accepted) in
    let deep = length-moduli_of own.levels in
    let few = accepted_depth own.base own.levels accepted.levels in
    record {
      shaped = boosting_fits own (boosting.shape_of own) sound refl deep
          (length-map-range_with_len _ 0 (plan_nodes own));
      sound = levels.accepted_are_sound own accepted;
      fits = shape_fits (plan_nodes own) (boosting.shape_of own) sound (omega (arith, deep, few))
          (bits_at own accepted);
    }

halves_fit : (own : HalvingNumbers) → IsAcceptedHalving own
    → IsAttacked (machine_in (plan.Halving own)) (halving.shape_of own)
halves_fit own accepted = record {
  shaped = halving_fit own accepted;
  sound = halves.accepted_are_sound own accepted;
  fits = subst (λ n. FitsLines n (halving.shape_of own)) (sym (halves.nodes_are own accepted))
      (shape_fits own.nodes (halving.shape_of own) (shaped.is_shape own accepted)
      (few_registers own accepted) (some_bits_at own accepted));
}

pub plans_fit : (any : AnyPlan) → IsAcceptedPlan any → IsAttacked (machine_in any) (shape_in any)
plans_fit (plan.Boosting own) accepted = levels_fit own accepted
plans_fit (plan.Halving own) accepted = halves_fit own accepted
