use Rattle.std.proofs.Common.{◌≡◌, ◌+◌, map, length, All}
use Rattle.shared_board.specs.Boards.{AreFilled}
use Rattle.shared_board.proofs.columns.fill.Given as goal

abbrev pub invariant-loop-l : goal.invariant-loop-l
invariant-loop-l l = record {
  registers_long : All (λ c. length c.items ≡ length l.config.current) l.registers.items;
  outputs_long : All (λ c. length c.items ≡ length l.config.current) l.outputs.items;
  deep : length l.registers.items ≡ length l.fn.registers.items;
  many : length l.outputs.items ≡ length l.fn.registers.items + 1;
  filled : AreFilled l.config.current (map (λ c. c.items) l.registers.items)
      (map (λ c. c.items) l.outputs.items) l.l;
}
