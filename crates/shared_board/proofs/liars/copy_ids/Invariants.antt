use Rattle.std.proofs.Common.{◌≡◌, ◌≤◌, take, vec_capacity}
use Rattle.shared_board.proofs.liars.copy_ids.Given as goal

abbrev pub invariant-loop-i : goal.invariant-loop-i
invariant-loop-i l = record {
  ids : l.ids.items ≡ take l.i l.faulty.ids;
  room : vec_capacity l.initial.ids ≤ vec_capacity l.ids;
}
