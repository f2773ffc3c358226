use Rattle.std.proofs.Common.{◌≡◌, ◌+◌, ◌*◌, ◌++◌, length, map, All}
use Rattle.std.specs.List.{range_with_len, flat_map}
use Rattle.plan_numbers.specs.Numbers.{levels_in}
use Rattle.shared_board.specs.Groups.{groups_of}
use Rattle.tower.specs.Placings.{key_of, IsReady}
use Rattle.tower.proofs.groups.+add_groups.Given as goal

abbrev pub decreases-add_groups : goal.decreases-add_groups
decreases-add_groups l = length l.levels.now

-- after the group at the top stand those of the blocks so far
abbrev pub invariant-loop-b : goal.invariant-loop-b
invariant-loop-b l = record {
  added : map key_of l.groups.items ≡ map key_of l.initial.groups.items
      ++ flat_map (λ b. groups_of (levels_in l.below) (l.first + b * l.n)) (range_with_len 0 l.b);
  ready : All IsReady l.groups.items;
}
