use Rattle.plan_laws.proofs.BlockRuns.{block_law}
use Rattle.plan_laws.proofs.level_laws.blocks_run.Goals as goal

pub returns : goal.returns
returns g c =
    let below = c.args.below.now in
    block_law (g.A.Counter.meaning below) (g.A.Counter.in_range below)
    (g.met.A.Counter.sizes below c.requires) (g.met.A.Counter.ignores_further below c.requires)
