use Rattle.std.proofs.Common.{◌≡◌, ◌≤◌, length, map, vec_capacity}
use Rattle.std.specs.List.{range_with_len}
use Rattle.construction.specs.Plans.{interval_of}
use Rattle.shared_board.proofs.rooms.intervals.Given as goal

-- the intervals so far, and there is room for the others
abbrev pub invariant-loop : goal.invariant-loop
invariant-loop l =
    (l.interval ≡ interval_of l.nums.beat l.nums.leaders l.counter)
    × (l.intervals.items ≡ map (interval_of l.nums.beat l.nums.leaders)
    (range_with_len 0 l.counter))
    × (length l.intervals.items ≡ l.counter)
    × (l.nums.blocks ≤ vec_capacity l.intervals)
