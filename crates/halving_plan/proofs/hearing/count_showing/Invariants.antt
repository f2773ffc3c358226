use Rattle.std.proofs.Common.{◌≡◌, ◌≤◌, count_by, nat_eq, take, drop}
use Rattle.halving_plan.specs.GroupHearing.{shown_by}
use Rattle.halving_plan.proofs.hearing.count_showing.Given as goal

abbrev pub invariant-loop-i : goal.invariant-loop-i
invariant-loop-i l = record {
  count : l.count
      ≡ count_by (λ s. nat_eq l.number (shown_by l.half s))
      (take l.i (drop l.half.first l.heard));
  few : l.count ≤ l.i;
}
