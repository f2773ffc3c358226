use Rattle.std.proofs.Common.{ℕ, not, eqb, length, ap, ◌∙◌, nat_lt}
use Rattle.run_checker.specs.Grammar.{most_eras}
use Rattle.run_checker.specs.Bodies.{BodySeen}
use Rattle.run_checker.proofs.BodyKept.{some_left}
use Rattle.run_checker.proofs.bodies.Body.has_set.Goals as goal

pub returns : goal.returns
returns c =
    ap not c.is_empty.ensures
    ∙ ap (λ (n : ℕ). not (eqb n 0)) c.self.inside.sets.ok.0
    ∙ some_left (most_eras c.self.inside.version) (length c.self.inside.sets.items)
    c.self.invariant.eras
    ∙ ap (λ (b : BodySeen). nat_lt b.known.eras (most_eras b.known.version)) c.self.view_is
