use Rattle.std.proofs.Common.{rules}
use Rattle.plan_certificate.proofs.TopLevels.{top_is}
use Rattle.plan_certificate.proofs.table_stages.is_top_level.Goals as goal

pub returns : goal.returns
returns c =
    let plan = c.args.plan.now in
    let same = top_is plan.base plan.levels _ c.requires
    (rw c.depth-depth.ensures.value at c.level-nums.ensures.value) in
    rw (← same) (search rules)
