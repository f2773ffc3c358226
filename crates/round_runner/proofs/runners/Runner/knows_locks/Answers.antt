use Rattle.std.proofs.Common.{◌≡◌, ◌+◌, inl, inr, length, sym, ap, ◌∙◌, subst, arith}
use Rattle.std.specs.Prelude.{is_some}
use Rattle.std.proofs.lemmas.Bool.{eqb-true, eq-eqb}
use Rattle.adversary_script.specs.Eras.{era_of}
use Rattle.round_runner.specs.Runners.{Running}
use Rattle.round_runner.proofs.runners.Runner.knows_locks.Goals as goal

pub returns-then-is_some : goal.returns-then-is_some
returns-then-is_some g c =
    let r = c.args.self.now in
    let eras = c.eras.ensures.value in
    let some = ap is_some (sym c.locked_at.ensures.value)
    ∙ (sym c.is_some.ensures ∙ c.if-is_some.true) in
    let rounds : r.at ≡ r.script.rounds → c.self.inside.at ≡ c.rounds.result =
    subst (λ (r : Running _). r.at ≡ r.script.rounds → c.self.inside.at ≡ c.rounds.result)
    c.self.view_is (λ end. end ∙ sym c.rounds.ensures.value) in
    let here : (era_of r.script r.at ≡ length r.script.eras → c.self.inside.era + 1 ≡ c.eras.result)
    × (c.self.inside.era + 1 ≡ c.eras.result → era_of r.script r.at ≡ length r.script.eras) =
    subst (λ (r : Running _).
    (era_of r.script r.at ≡ length r.script.eras → c.self.inside.era + 1 ≡ c.eras.result)
    × (c.self.inside.era + 1 ≡ c.eras.result → era_of r.script r.at ≡ length r.script.eras))
    c.self.view_is (
      λ last. omega (arith, c.self.invariant.here, last, eras),
      λ next. omega (arith, c.self.invariant.here, next, eras),
    ) in (
      λ is. inr (here.1 (eqb-true (c.self.inside.era + 1) c.eras.result is), some),
      λ knows. elim knows [
        | inl end ↦ absurd (c.if-self-rounds.false (rounds end))
        | inr later ↦ eq-eqb (c.self.inside.era + 1) c.eras.result (here.0 later.0)
      ],
    )
