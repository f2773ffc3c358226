use Rattle.std.proofs.Common.{◌<◌, ℕ, List, length, get_or, All, sym, ap, ◌∙◌, subst, arith}
use Rattle.construction.specs.Plans.{plan_nodes}
use Rattle.run_checker.specs.Bodies.{BodySeen}
use Rattle.run_checker.specs.Changes.{next_sender}
use Rattle.run_checker.proofs.BodyKept.{told_kept}
use Rattle.run_checker.proofs.bodies.Body.tell_state.Goals as goal

pub invariant_of-self : goal.invariant_of-self
invariant_of-self c =
    let i = c.self.invariant in
    let nodes = ap (λ (b : BodySeen). plan_nodes b.known.plan) c.self.view_is in
    let sender : ℕ =
    (get_or c.self.inside.tellings.pairs (length c.self.inside.tellings.states) (0, 0)).0 in
    let seen = ap next_sender c.self.view_is in
    let here = ap (λ (l : List (ℕ × ℕ)). (get_or l (length c.self.inside.tellings.states) (0, 0)).0)
    i.pairs in
    let lt : sender
    < plan_nodes c.self.inside.tower = omega (arith, c.requires.node, nodes, seen, here) in
    let k = told_kept c.self.inside.tower c.tell.ensures c.args.digits.now c.self.inside.tellings
    c.add.new.self c.add.result c.add.ensures i.kept lt i.told in
    record {
      shape = i.shape;
      faulty = i.faulty;
      unknown = i.unknown;
      size = i.size;
      pairs = k.pairs ∙ i.pairs;
      senders =
          subst (All (λ pair. pair.0 < plan_nodes c.self.inside.tower)) (sym k.pairs) i.senders;
      kept = k.kept ∙ i.kept;
      told = k.states;
      most = k.room ∙ i.most;
      zero = i.zero;
      room = i.room;
      sets = i.sets;
      eras = i.eras;
      from = i.from;
      at = i.at;
    }
