use Rattle.std.proofs.Common.{List, ℕ, length, sym, ap, ◌∙◌, arith}
use Rattle.std.proofs.lemmas.List.{length-take-le}
use Rattle.run_checker.specs.NextLies.{lie_front}
use Rattle.run_checker.proofs.pairs.Pair.front_len.Goals as goal

pub returns-clause-value : goal.returns-clause-value
returns-clause-value c =
    sym (length-take-le c.self.inside.len c.self.inside.text (omega (arith, c.self.invariant.0)))
    ∙ ap (λ (l : List ℕ). length l) c.self.invariant.1
    ∙ ap (λ pair. length (lie_front pair)) c.self.view_is
