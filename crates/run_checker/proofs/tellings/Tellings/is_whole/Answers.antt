use Rattle.std.proofs.Common.{ℕ, List, eqb, length, sym, ap, ◌∙◌}
use Rattle.run_checker.specs.Tellings.{Telling}
use Rattle.run_checker.proofs.StatesRead.{length_told}
use Rattle.run_checker.proofs.tellings.Tellings.is_whole.Goals as goal

pub returns : goal.returns
returns c =
    let long = length_told c.self.inside.shape c.self.inside.pairs.items
    c.self.inside.digits.items c.self.inside.count c.self.invariant in
    c.is_count.ensures
    ∙ ap (λ (l : List (ℕ × ℕ)). eqb c.self.inside.count (length l)) c.deref.ensures.value
    ∙ ap (λ (n : ℕ). eqb n (length c.self.inside.pairs.items)) (sym long)
    ∙ ap (λ (t : Telling). eqb (length t.states) (length t.pairs)) c.self.view_is
