use Rattle.std.proofs.Common.{◌≡◌, length, take}
use Rattle.shared_board.proofs.liars.are_ids.Given as goal

abbrev pub invariant-loop-i : goal.invariant-loop-i
invariant-loop-i l = record {
  same : take l.i l.ids ≡ take l.i l.faulty.ids;
  end : l.i-end ≡ length l.ids;
}
