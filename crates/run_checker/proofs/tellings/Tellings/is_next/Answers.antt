use Rattle.std.proofs.Common.{ℕ, List, length, drop, sym, ap, ◌∙◌}
use Rattle.run_checker.specs.Checking.{is_next}
use Rattle.run_checker.specs.Tellings.{Telling}
use Rattle.run_checker.proofs.StatesRead.{length_told}
use Rattle.run_checker.proofs.tellings.Tellings.is_next.Goals as goal

pub returns : goal.returns
returns c =
    let long = length_told c.self.inside.shape c.self.inside.pairs.items
    c.self.inside.digits.items c.self.inside.count c.self.invariant in
    c.is_pair_at.ensures
    ∙ ap (λ (l : List (ℕ × ℕ)). is_next c.args.sender c.args.receiver
    (drop c.self.inside.count l)) c.deref.ensures.value
    ∙ ap (λ (k : ℕ). is_next c.args.sender c.args.receiver (drop k c.self.inside.pairs.items))
    (sym long)
    ∙ ap (λ (t : Telling). is_next c.args.sender c.args.receiver (drop (length t.states) t.pairs))
    c.self.view_is
