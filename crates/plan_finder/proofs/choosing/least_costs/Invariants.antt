use Rattle.std.proofs.Common.{◌≡◌, ◌++◌}
use Rattle.std.specs.List.{flat_map, range_with_len}
use Rattle.plan_finder.specs.Best.{AreCostsBefore}
use Rattle.plan_finder.specs.Least.{pots_at}
use Rattle.plan_finder.proofs.Enumerated.{rows_before}
use Rattle.plan_finder.proofs.choosing.least_costs.Given as goal

abbrev pub invariant-loop-n : goal.invariant-loop-n
invariant-loop-n l = record {
  costs : AreCostsBefore l.rows.most l.n 0 l.pots.items;
  same : l.pots.items ≡ rows_before l.rows.most l.rows.width l.n;
}

abbrev pub invariant-loop-f : goal.invariant-loop-f
invariant-loop-f l = record {
  costs : AreCostsBefore l.rows.most l.n l.f l.pots.items;
  same : l.pots.items
      ≡ rows_before l.rows.most l.rows.width l.n
      ++ flat_map (pots_at l.rows.most l.n) (range_with_len 0 l.f);
}
