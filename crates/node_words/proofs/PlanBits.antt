-- A state of a node of a plan takes some bits, and not many.
use Rattle.std.proofs.Common.{◌≡◌, ℕ, zero, suc, ◌+◌, ◌-◌, ◌*◌, ◌<◌, ◌≤◌, true, false, cond, length}
use Rattle.std.proofs.Common.{get_or, refl, ap, ◌∙◌, subst, sym, arith}
use Rattle.std.specs.Prelude.{nat_lt, ◌==◌}
use Rattle.std.proofs.lemmas.Bool.{le-ltb}
use Rattle.construction.specs.Widths.{width}
use Rattle.construction.specs.Plans.{Plan, plan_nodes, plan_low}
use Rattle.construction.proofs.Ranges.{low_most}
use Rattle.plan_numbers.specs.Premises.{IsAccepted}
use Rattle.state_codec.specs.Shapes.{Fields, AreAll, all_of, moduli_of, shape_of, fields_at}
use Rattle.state_codec.specs.Shapes.{fields_from, moduli_from, bits_in}
use Rattle.state_codec.proofs.Lows.{length-moduli_from, modulus_at, fields_of_node, from_limited}
use Rattle.state_codec.proofs.Plans.{length-moduli_of, all_of_accepted}
use Rattle.node_words.proofs.StateDigits.{wide, one_counts, most_bits}

module _ (all : Fields) (sound : AreAll all) (low : ℕ) where
  pub some_bits : low ≤ length all.moduli → 0 < bits_in (fields_from all low)
  some_bits le = by_low low le refl where
    by_low : (l : ℕ) → l ≤ length all.moduli → l ≡ low → 0 < bits_in (fields_from all low)
    by_low zero within is =
        let none : (low == 0) ≡ true = rw (← is) refl in
        let base : (fields_from all low).base ≡ all.base =
        ap (λ b. cond b all.base 1) none in
        omega (arith, ap width base, wide all.base sound.least sound.most)
    by_low (suc l) within is =
        let inside : l < length all.moduli = omega arith in
        let there : nat_lt (length all.moduli - 1 + 1) low ≡ false =
        le-ltb (length all.moduli - 1 + 1) low (omega arith) in
        let last : length all.moduli - 1 < length all.moduli = omega arith in
        let seen : get_or (moduli_from low all.moduli) (length all.moduli - 1) 0
        ≡ get_or all.moduli (length all.moduli - 1) 0 =
        modulus_at low all.moduli (length all.moduli - 1) last
        ∙ ap (λ b. cond b 0 (get_or all.moduli (length all.moduli - 1) 0)) there in
        let two = (sound.moduli (length all.moduli - 1) 0 last).0 in
        let some = one_counts (moduli_from low all.moduli) (length all.moduli - 1)
        (omega (arith, length-moduli_from low all.moduli)) (omega (arith, seen, two)) in
        omega (arith, some)

  pub few_bits : bits_in (fields_from all low) ≤ 42 * length all.moduli + 41
  few_bits =
      let most = most_bits (fields_from all low) (from_limited all low sound) in
      omega (arith, most, length-moduli_from low all.moduli)

pub plan_bits : (plan : Plan) → IsAccepted plan → (v : ℕ) → v < plan_nodes plan
    → 0 < bits_in (fields_at (shape_of plan) v)
plan_bits plan accepted v lt =
    let some = some_bits (all_of plan) (all_of_accepted plan accepted) (plan_low plan v)
    (omega (arith, low_most plan.levels v, length-moduli_of plan.levels)) in
    subst (λ (f : Fields). 0 < bits_in f) (sym (fields_of_node plan (moduli_of plan.levels) v lt))
    some
