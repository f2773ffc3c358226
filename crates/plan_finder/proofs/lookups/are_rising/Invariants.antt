use Rattle.std.proofs.Common.{length}
use Rattle.plan_finder.specs.Costs.{IsRising}
use Rattle.plan_finder.proofs.lookups.are_rising.Given as goal

abbrev pub invariant-loop-rest : goal.invariant-loop-rest
invariant-loop-rest l = record {
  ahead : IsRising l.rest → IsRising l.pots;
  back : IsRising l.pots → IsRising l.rest;
}

abbrev pub decreases-loop-rest : goal.decreases-loop-rest
decreases-loop-rest l = length l.rest
