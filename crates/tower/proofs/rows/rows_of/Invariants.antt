use Rattle.std.proofs.Common.{◌≤◌, vec_capacity}
use Rattle.plan_numbers.specs.Numbers.{levels_in}
use Rattle.tower.specs.Rows.{AreRows}
use Rattle.tower.proofs.rows.rows_of.Given as goal

abbrev pub invariant-loop-node : goal.invariant-loop-node
invariant-loop-node l = record {
  rows : AreRows (levels_in l.levels) l.node l.rows.items;
  room : l.nodes ≤ vec_capacity l.rows;
}
