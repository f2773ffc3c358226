use Rattle.choose.proofs.Short.{can_by}
use Rattle.choose.proofs.shortages.can_boost.Goals as goal

pub returns : goal.returns
returns c =
    can_by c.args.n c.args.f c.in_ok-plan.plan c.is_some.result c.is_some.ensures
    c.in_ok-plan.ensures
