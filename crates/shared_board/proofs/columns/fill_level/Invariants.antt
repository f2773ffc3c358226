use Rattle.std.proofs.Common.{◌≡◌, length, take}
use Rattle.shared_board.specs.Boards.{registers_of, outputs_of}
use Rattle.shared_board.proofs.columns.fill_level.Given as goal

abbrev pub invariant-loop-v : goal.invariant-loop-v
invariant-loop-v l = record {
  registers_long : length l.registers.items ≡ length l.config.current;
  outputs_long : length l.outputs.items ≡ length l.config.current;
  registers : take l.v l.registers.items ≡ registers_of l.level (take l.v l.config.current);
  outputs : take l.v l.outputs.items ≡ outputs_of l.level (take l.v l.config.current);
}
