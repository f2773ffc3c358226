use Rattle.promises.proofs.Settled as settled
use Rattle.promises.proofs.laws.accepted_stabilise.Goals as goal

pub returns : goal.returns
returns c = settled.accepted_stabilise c.every_plan_settles.ensures c.each_has_one_next.ensures
    c.locks_at_bound.ensures c.locked_runs_count.ensures c.versions_agree.ensures
