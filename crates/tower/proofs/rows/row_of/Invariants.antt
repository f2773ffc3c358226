use Rattle.std.proofs.Common.{◌≡◌, ◌≤◌, length, map, vec_capacity}
use Rattle.std.specs.List.{range_with_len}
use Rattle.plan_numbers.specs.Numbers.{levels_in}
use Rattle.shared_board.specs.Groups.{index_at}
use Rattle.tower.proofs.rows.row_of.Given as goal

abbrev pub invariant-loop-height : goal.invariant-loop-height
invariant-loop-height l = record {
  indices : l.places.items ≡ map (index_at (levels_in l.levels) l.node) (range_with_len 0 l.height);
  room : length l.levels ≤ vec_capacity l.places;
}
