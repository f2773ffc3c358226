use Rattle.plan_laws.proofs.BoostSettles as boost
use Rattle.plan_laws.proofs.level_laws.boosted_settles.Goals as goal

pub returns : goal.returns
returns g c = λ level on.
    let below = c.args.below.now in
    boost.boosted_settles (g.A.Counter.meaning below) (g.A.Counter.in_range below) level
    (g.met.A.Counter.sizes below c.requires) on (g.met.A.Counter.settles below c.requires)
