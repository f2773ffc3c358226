use Rattle.std.proofs.Common.{◌≡◌, ◌+◌, ◌*◌, length}
use Rattle.plan_finder.specs.Best.{AreBest}
use Rattle.plan_finder.proofs.table.best_cells.Given as goal

abbrev pub invariant-loop-n : goal.invariant-loop-n
invariant-loop-n l = record {
  best : AreBest l.most l.width l.cells.items;
  size : length l.cells.items ≡ l.n * l.width;
}

abbrev pub invariant-loop-g : goal.invariant-loop-g
invariant-loop-g l = record {
  best : AreBest l.most l.width l.cells.items;
  size : length l.cells.items ≡ l.n * l.width + l.g;
}
