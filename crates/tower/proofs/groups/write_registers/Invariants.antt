use Rattle.std.proofs.Common.{◌≡◌, ◌+◌, ◌*◌, ◌≤◌, ◌++◌, length, map, drop}
use Rattle.std.specs.List.{range_with_len}
use Rattle.tower.specs.Placings.{row_register}
use Rattle.tower.proofs.groups.write_registers.Given as goal

abbrev pub invariant-loop-height : goal.invariant-loop-height
invariant-loop-height g l = record {
  number : l.out.x ≡ l.initial.out.x;
  registers : l.out.registers
      ≡ map (row_register l.board l.row l.node l.lies l.initial.groups) (range_with_len 0 l.height)
      ++ drop l.height l.initial.out.registers;
  same : l.groups ≡ l.initial.groups;
  steps : l.steps ≤ l.initial.steps + 3 * l.height * length l.board.faulty;
}
