use Rattle.std.proofs.Common.{arith}
use Rattle.plan_laws.proofs.PlanCounter.{plan_sizes}
use Rattle.run_checker.proofs.bodies.Body.may_put.Goals as goal

pub returns-then-not-contains-clause-small : goal.returns-then-not-contains-clause-small
returns-then-not-contains-clause-small c =
    let most = (plan_sizes c.self.inside.tower c.tell.ensures).most in
    λ e. omega (arith, most, c.nodes.ensures, c.from-else-v-from.ensures, c.if-v-from-2.false)
