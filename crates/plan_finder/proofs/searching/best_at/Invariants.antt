use Rattle.plan_finder.specs.Best.{IsBestOf, IsTried}
use Rattle.plan_finder.proofs.searching.best_at.Given as goal

abbrev pub invariant-loop-k : goal.invariant-loop-k
invariant-loop-k l = IsBestOf (IsTried l.rows.most l.n l.g l.k 0) l.best
