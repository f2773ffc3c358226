use Rattle.std.proofs.Common.{◌<◌, ◌*◌, ◌/◌, ℕ, ap, ◌∙◌}
use Rattle.boost_step.specs.Factors.{factor_of}
use Rattle.boost_step.proofs.Products.{product_tells}
use Rattle.boost_step.proofs.divisors.Divisor.of.Goals as goal

pub returns-then-number-self : goal.returns-then-number-self
returns-then-number-self c =
    let d : ℕ = c.self.inside.divisor in
    let x : ℕ = c.args.number in
    let small : x < factor_of d = rw (← c.self.invariant.1) c.if-number-self.true in
    rw (← c.self.view_is)
    (ap (λ (f : ℕ). x * f / 4294967296) c.self.invariant.1
    ∙ product_tells d x c.self.invariant.0 small)
