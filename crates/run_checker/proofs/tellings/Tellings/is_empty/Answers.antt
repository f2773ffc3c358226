use Rattle.std.proofs.Common.{ℕ, eqb, length, sym, ap, ◌∙◌}
use Rattle.run_checker.specs.Tellings.{Telling}
use Rattle.run_checker.proofs.StatesRead.{length_told}
use Rattle.run_checker.proofs.tellings.Tellings.is_empty.Goals as goal

pub returns : goal.returns
returns c =
    let long = length_told c.self.inside.shape c.self.inside.pairs.items
    c.self.inside.digits.items c.self.inside.count c.self.invariant in
    ap (λ (n : ℕ). eqb n 0) (sym long)
    ∙ ap (λ (t : Telling). eqb (length t.states) 0) c.self.view_is
