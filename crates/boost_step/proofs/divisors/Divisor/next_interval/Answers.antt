use Rattle.std.proofs.Common.{◌≡◌, ◌≤◌, ◌*◌, ◌/◌, ℕ, ◌+◌, ◌-◌, ap, sym, ◌∙◌, arith}
use Rattle.std.proofs.Math.Nat.{div-div-eq-div-mul, mul-le-mul}
use Rattle.boost_step.proofs.divisors.Divisor.next_interval.Goals.{then-leaders-eq2}
use Rattle.boost_step.proofs.divisors.Divisor.next_interval.Goals.{else-leaders-eq2}
use Rattle.boost_step.proofs.divisors.Divisor.next_interval.Goals as goal

pub invariant_of-result : goal.invariant_of-result
invariant_of-result c =
    let d : ℕ = c.self.inside.divisor in
    let f : ℕ = c.self.inside.factor in
    let m : ℕ = 2 * c.args.leaders in
    let two : 1 ≤ m = omega (arith, c.requires.some) in
    let some : 1 * 1 ≤ d * m = mul-le-mul c.self.invariant.0 two in
    let less : f - 1 ≡ 4294967295 / d = omega (arith, c.self.invariant.1) in
    let rest : c.if-leaders-eq2.rest ≡ (f - 1) / m = elim c.if-leaders-eq2.branch [
      | then-leaders-eq2 w ↦
          w.rest-is ∙ ap (λ (l : ℕ). (f - 1) / (2 * l)) (sym w.if-leaders-eq2.true)
      | else-leaders-eq2 w ↦ w.rest-is
    ] in (
      some,
      ap (λ (q : ℕ). q + 1) (rest ∙ ap (λ (g : ℕ). g / m) less)
          ∙ ap (λ (q : ℕ). q + 1) (div-div-eq-div-mul 4294967295 d m),
    )
