use Rattle.std.proofs.Common.{◌*◌, ◌<◌, ◌≤◌, subst, sym, arith}
use Rattle.halving_plan.specs.Plans.{HalvingNumbers}
use Rattle.choose.specs.declared.any_plans.AnyPlan.TheVariants.{Halving}
use Rattle.choose.specs.FrontsOfBoth.{IsFrontOfBoth}
use Rattle.std.specs.Prelude.{Some}
use Rattle.choose.proofs.Both.{fewest_front}
use Rattle.choose.proofs.fronts_of_both.front_of_both.Goals as goal

pub returns : goal.returns
returns c =
    let f = c.args.f in
    let some : 1 ≤ f = omega arith in
    let room : 3 * f < c.args.most = omega arith in
    subst (λ (plan : HalvingNumbers). IsFrontOfBoth f c.args.c c.args.most (Some (Halving plan)))
    (sym c.fewest_nodes.ensures)
    (fewest_front f c.args.c c.args.most some c.requires.faults c.requires.modulus.0
    c.requires.modulus.1 room)
