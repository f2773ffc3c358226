use Rattle.std.proofs.Common.{◌≡◌, ◌≤◌, subst, sym, arith}
use Rattle.std.specs.Int.{div_ceil}
use Rattle.halving_plan.specs.Plans.{HalvingNumbers}
use Rattle.construction.specs.Plans.{Plan}
use Rattle.choose.specs.declared.any_plans.AnyPlan.TheVariants.{Boosting, Halving}
use Rattle.choose.specs.MostFaults.{AreMost, IsMost}
use Rattle.choose.proofs.MostFaults.{lone_most, halving_most}
use Rattle.choose.proofs.most_faults.most_plan.Goals as goal

pub returns-then-f-eq0 : goal.returns-then-f-eq0
returns-then-f-eq0 c =
    let none : c.faults_within-f.result ≡ 0 = omega (arith, c.if-f-eq0.true) in
    let most : AreMost c.args.n c.args.t (div_ceil c.args.n 3) 0 =
    subst (AreMost c.args.n c.args.t (div_ceil c.args.n 3)) none c.faults_within-f.ensures in
    subst (λ (plan : Plan). IsMost c.args.n c.args.t c.args.c (Boosting plan))
    (sym c.in_ok-plan.ensures)
    (lone_most c.args.n c.args.t c.args.c c.requires.nodes.0 c.requires.nodes.1
    c.requires.modulus.0 c.requires.modulus.1 most)

pub returns : goal.returns
returns c =
    let some : 1 ≤ c.faults_within-f.result = omega arith in
    subst (λ (plan : HalvingNumbers). IsMost c.args.n c.args.t c.args.c (Halving plan))
    (sym c.fewest_nodes.ensures)
    (halving_most c.args.n c.args.t c.faults_within-f.result c.requires.nodes.1
    c.faults_within-f.ensures c.args.c some c.requires.modulus.0 c.requires.modulus.1)
