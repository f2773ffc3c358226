use Rattle.std.proofs.Common.{◌*◌}
use Rattle.plan_finder.specs.Best.{IsBestOf, IsTried}
use Rattle.plan_finder.proofs.searching.best_by.Given as goal

abbrev pub invariant-loop-f : goal.invariant-loop-f
invariant-loop-f l =
    IsBestOf
    (IsTried l.rows.most (l.last.step.blocks * l.n) l.last.step.faults l.last.step.blocks l.f)
    l.best
