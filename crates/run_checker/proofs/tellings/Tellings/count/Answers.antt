use Rattle.std.proofs.Common.{length, sym, ap, ◌∙◌}
use Rattle.run_checker.specs.Tellings.{Telling}
use Rattle.run_checker.proofs.StatesRead.{length_told}
use Rattle.run_checker.proofs.tellings.Tellings.count.Goals as goal

pub returns-clause-value : goal.returns-clause-value
returns-clause-value c =
    sym (length_told c.self.inside.shape c.self.inside.pairs.items c.self.inside.digits.items
    c.self.inside.count c.self.invariant)
    ∙ ap (λ (t : Telling). length t.states) c.self.view_is
