use Rattle.std.proofs.Common.{drop}
use Rattle.plan_finder.specs.Orders.{IsLess}
use Rattle.plan_finder.specs.Best.{numbers_by}
use Rattle.plan_finder.proofs.best.are_less.Given as goal

abbrev pub invariant-loop-i : goal.invariant-loop-i
invariant-loop-i l = record {
  ahead : IsLess (numbers_by (drop l.i l.steps)) (numbers_by (drop l.i l.others))
      → IsLess (numbers_by l.steps) (numbers_by l.others);
  back : IsLess (numbers_by l.steps) (numbers_by l.others)
      → IsLess (numbers_by (drop l.i l.steps)) (numbers_by (drop l.i l.others));
}
