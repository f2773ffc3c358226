use Rattle.std.proofs.Common.{◌≡◌, ◌<◌, ℕ, List, ◌++◌, length, get_or, All, sym, ◌∙◌, subst}
use Rattle.construction.specs.Plans.{plan_nodes}
use Rattle.plan_numbers.specs.Premises.{IsAccepted}
use Rattle.run_checker.specs.Bodies.{BodySeen}
use Rattle.run_checker.specs.Changes.{pairs_in}
use Rattle.run_checker.specs.NextLies.{lie_front}
use Rattle.run_checker.proofs.NextLies.{takes_next}
use Rattle.run_checker.proofs.bodies.Body.take_next.Goals as goal

pub returns-in-Some : goal.returns-in-Some
returns-in-Some c =
    let view = c.self.view_is in
    let i = c.self.invariant in
    let next = c.in-Some.ensures in
    let line = c.args.line.now in
    let digits = c.in-Some.digits.now in
    let told = c.self.inside.tellings.states in
    takes_next c.args.self.now
    (subst (λ (b : BodySeen). IsAccepted b.known.plan) view c.tell.ensures)
    (subst (λ (b : BodySeen). All (λ id. id < plan_nodes b.known.plan) b.known.stand.faulty) view
    (subst (λ (n : ℕ). All (λ id. id < n) c.self.inside.faulty.ids) i.faulty
    c.facts.ensures.below))
    (sym c.is_putting.ensures ∙ c.if-is_putting.false)
    (sym c.has_round.ensures ∙ c.if-not-has_round.false)
    line digits
    (subst (λ (b : BodySeen). length b.told < length (pairs_in b)) view
    (subst (λ (l : List (ℕ × ℕ)). length told < length l) i.pairs next.more))
    (subst
    (λ (b : BodySeen). line ≡ lie_front (get_or (pairs_in b) (length b.told) (0, 0)) ++ digits)
    view (subst (λ (l : List (ℕ × ℕ)). line ≡ lie_front (get_or l (length told) (0, 0)) ++ digits)
    i.pairs next.is))
    c.tell_state.new.self c.tell_state.result c.tell_state.ensures
