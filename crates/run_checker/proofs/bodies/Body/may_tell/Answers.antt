use Rattle.std.proofs.Common.{ℕ, List, length, get_or, sym, ap, ◌∙◌, arith}
use Rattle.construction.specs.Plans.{plan_nodes}
use Rattle.plan_laws.proofs.PlanCounter.{plan_sizes}
use Rattle.run_checker.specs.Bodies.{BodySeen}
use Rattle.run_checker.specs.Changes.{next_sender}
use Rattle.run_checker.proofs.BodyKept.{next_below}
use Rattle.run_checker.proofs.bodies.Body.may_tell.Goals as goal

pub returns-then-has_round-clause-node : goal.returns-then-has_round-clause-node
returns-then-has_round-clause-node c = λ e.
    let nodes = ap (λ (b : BodySeen). plan_nodes b.known.plan) c.self.view_is in
    let next = next_below (plan_nodes c.self.inside.tower) c.args.sender c.args.receiver
    (length c.self.inside.tellings.states)
    c.self.inside.tellings.pairs c.self.invariant.senders (sym c.is_next.ensures ∙ e) in
    omega (arith, nodes, next.0)

pub returns-then-has_round-clause-small : goal.returns-then-has_round-clause-small
returns-then-has_round-clause-small c = λ e.
    let most = (plan_sizes c.self.inside.tower c.tell.ensures).most in
    let next = next_below (plan_nodes c.self.inside.tower) c.args.sender c.args.receiver
    (length c.self.inside.tellings.states)
    c.self.inside.tellings.pairs c.self.invariant.senders (sym c.is_next.ensures ∙ e) in
    omega (arith, most, next.0)

pub returns-then-has_round-clause-next : goal.returns-then-has_round-clause-next
returns-then-has_round-clause-next c = λ e.
    let next = next_below (plan_nodes c.self.inside.tower) c.args.sender c.args.receiver
    (length c.self.inside.tellings.states)
    c.self.inside.tellings.pairs c.self.invariant.senders (sym c.is_next.ensures ∙ e) in
    let here = ap (λ (l : List (ℕ × ℕ)). (get_or l (length c.self.inside.tellings.states) (0, 0)).0)
    c.self.invariant.pairs in
    sym (ap next_sender c.self.view_is) ∙ sym here ∙ next.2
