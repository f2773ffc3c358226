use Rattle.plan_finder.specs.Best.{IsBestOf, HasFaults}
use Rattle.plan_finder.proofs.choosing.best_with.Given as goal

abbrev pub invariant-loop-n : goal.invariant-loop-n
invariant-loop-n l = IsBestOf (HasFaults l.rows.most l.f l.n) l.best
