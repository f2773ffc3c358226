use Rattle.std.proofs.Common.{◌≡◌, ◌≤◌, length, map, take}
use Rattle.std.specs.List.{range_with_len}
use Rattle.sync_types.specs.FaultSets.{is_in}
use Rattle.shared_board.specs.Sharing.{place_among}
use Rattle.shared_board.proofs.liars.mark.Given as goal

abbrev pub invariant-loop-v : goal.invariant-loop-v
invariant-loop-v l = record {
  count : l.count ≡ place_among l.faulty.ids l.v;
  few : l.count ≤ l.v;
  marks_long : length l.marks.items ≡ length l.fn.marks.items;
  before_long : length l.before.items ≡ length l.fn.before.items;
  marks : take l.v l.marks.items ≡ map (is_in l.faulty.ids) (range_with_len 0 l.v);
  before : take l.v l.before.items ≡ map (place_among l.faulty.ids) (range_with_len 0 l.v);
}
