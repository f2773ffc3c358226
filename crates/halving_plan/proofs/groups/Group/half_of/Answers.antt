use Rattle.std.proofs.Common.{subst, sym, ap, arith}
use Rattle.halving_plan.specs.Groups.{HalvingGroup, IsHalf}
use Rattle.halving_plan.proofs.Fitting.{left_half, right_half}
use Rattle.halving_plan.proofs.groups.Group.half_of.Goals as goal

pub returns-then-node-first-clause-half : goal.returns-then-node-first-clause-half
returns-then-node-first-clause-half c = λ from.
    let group = c.args.self.now in
    let first = ap (λ (g : HalvingGroup). g.first) c.right-right.ensures in
    subst (IsHalf group c.args.node) (sym c.left.ensures)
    (left_half group c.args.node c.facts.ensures c.requires from
    (omega (arith, c.if-node-first.true, c.first.ensures, first)))

pub returns-then-node-first-2-clause-half : goal.returns-then-node-first-2-clause-half
returns-then-node-first-2-clause-half c = λ from.
    let group = c.args.self.now in
    let first = ap (λ (g : HalvingGroup). g.first) c.right-right.ensures in
    let nodes = ap (λ (g : HalvingGroup). g.nodes) c.right-right.ensures in
    subst (IsHalf group c.args.node) (sym c.right-right.ensures)
    (right_half group c.args.node c.facts.ensures c.requires
    (omega (arith, c.if-node-first.false, c.first.ensures, first))
    (omega (
      arith,
      c.if-node-first-2.true,
      c.first-else-node-first.ensures,
      c.nodes.ensures,
      first,
      nodes,
    )))
