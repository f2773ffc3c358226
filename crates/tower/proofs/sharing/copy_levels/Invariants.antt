use Rattle.std.proofs.Common.{◌≡◌, ◌≤◌, length, take, vec_capacity}
use Rattle.tower.proofs.sharing.copy_levels.Given as goal

abbrev pub invariant-loop-nums : goal.invariant-loop-nums
invariant-loop-nums l = record {
  copied : l.copy.items ≡ take l.nums-index l.levels;
  room : length l.levels ≤ vec_capacity l.copy;
}
