use Rattle.std.proofs.Common.{◌≡◌, length, arith}
use Rattle.state_codec.proofs.Plans.{all_of_accepted, over_accepted}
use Rattle.state_codec.proofs.PlanShapes.{shape_is, plan_kept}
use Rattle.state_codec.proofs.shapes.StateShape.over.Goals as goal

pub invariant_of-result : goal.invariant_of-result
invariant_of-result c =
    let plan = c.args.plan.now in
    let own = all_of_accepted plan c.facts.ensures.accepted in
    let made = c.in_ok-kinds.ensures in
    let deep : c.len-depth.result
    ≡ length c.args.moduli.items.items = omega (arith, c.len-depth.ensures) in
    plan_kept plan c.args.moduli.items.items c.in_ok-kinds.kinds.items c.in_ok-which.which.items
    made c.in_ok-which.ensures c.len-depth.result deep c.facts.ensures.sized.most
    (over_accepted plan c.args.moduli.items.items c.facts.ensures.accepted
    (record { least = own.least; most = own.most; moduli = c.args.moduli.limits }))

pub returns : goal.returns
returns c =
    let plan = c.args.plan.now in
    let made = c.in_ok-kinds.ensures in
    let deep : c.len-depth.result
    ≡ length c.args.moduli.items.items = omega (arith, c.len-depth.ensures) in
    shape_is plan c.args.moduli.items.items c.in_ok-kinds.kinds.items c.in_ok-which.which.items made
    c.in_ok-which.ensures c.len-depth.result deep
