use Rattle.std.proofs.Common.{◌≡◌, ◌*◌, length, map, take}
use Rattle.std.specs.List.{range_with_len}
use Rattle.construction.specs.Plans.{interval_of}
use Rattle.construction.specs.Votes.{vote}
use Rattle.plan_numbers.specs.Numbers.{level_of}
use Rattle.boost_step.specs.Numbers.{in_blocks}
use Rattle.boost_step.proofs.level.lead.Given as goal

abbrev pub invariant-loop-i : goal.invariant-loop-i
invariant-loop-i l = record {
  interval : l.interval ≡ interval_of l.nums.beat l.nums.leaders l.i;
  start : l.start ≡ l.i * l.n;
  votes : take l.i l.work.votes.items
      ≡ map (vote (level_of l.nums) l.n (take (in_blocks l.nums) l.work.outputs.items))
      (range_with_len 0 l.i);
  room : length l.work.votes.items ≡ length l.fn.work.votes.items;
  values : l.work.values ≡ l.fn.work.values;
  outputs : l.work.outputs ≡ l.fn.work.outputs;
}
