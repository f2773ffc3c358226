use Rattle.std.proofs.Common.{◌≡◌, ◌≤◌, take, vec_capacity}
use Rattle.construction.specs.Plans.{plan_depth}
use Rattle.plan_numbers.specs.Numbers.{level_numbers}
use Rattle.trace.proofs.desks.levels_of.Given as goal

abbrev pub invariant-loop-i : goal.invariant-loop-i
invariant-loop-i l = record {
  numbers : l.levels.items ≡ take l.i (level_numbers l.plan);
  room : plan_depth l.plan ≤ vec_capacity l.levels;
}
