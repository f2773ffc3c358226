use Rattle.std.proofs.Common.{◌+◌, ◌*◌}
use Rattle.choose.specs.Least.{IsLeastOf}
use Rattle.choose.proofs.Least.{Tried}
use Rattle.choose.proofs.searching.+least.Given as goal

abbrev pub decreases-least_with : goal.decreases-least_with
decreases-least_with l = 2 * l.n

abbrev pub decreases-least_plan : goal.decreases-least_plan
decreases-least_plan l = 2 * l.n + 1

abbrev pub invariant-least_plan-loop-k : goal.invariant-least_plan-loop-k
invariant-least_plan-loop-k l = IsLeastOf l.c (Tried l.n l.f l.k) l.best
