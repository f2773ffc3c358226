use Rattle.std.proofs.Common.{◌≡◌, length, take}
use Rattle.shared_board.specs.Boards.{numbers_of}
use Rattle.shared_board.proofs.columns.fill_numbers.Given as goal

abbrev pub invariant-loop-v : goal.invariant-loop-v
invariant-loop-v l = record {
  long : length l.numbers.items ≡ length l.config.current;
  filled : take l.v l.numbers.items ≡ numbers_of (take l.v l.config.current);
}
