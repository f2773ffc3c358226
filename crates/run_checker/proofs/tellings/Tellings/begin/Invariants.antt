use Rattle.std.proofs.Common.{◌≡◌, ℕ, ◌<◌, ◌≤◌, [], length, get_or, vec_capacity}
use Rattle.run_checker.specs.Grammar.{pairs_of}
use Rattle.run_checker.specs.Tellings.{room_of}
use Rattle.run_checker.proofs.tellings.Tellings.begin.Given as goal

abbrev pub invariant-loop-k : goal.invariant-loop-k
invariant-loop-k l = record {
  shape : l.self-inside.shape ≡ l.fn.self.shape;
  count : l.self-inside.count ≡ 0;
  pairs : l.self-inside.pairs.items ≡ pairs_of l.faulty.nodes l.faulty.ids;
  capacity : l.fn.self.room ≤ vec_capacity l.self-inside.pairs;
  size : length l.self-inside.digits.items ≡ l.fn.self.room;
  rooms : (j : ℕ) → j < l.k → length (get_or l.self-inside.digits.items j [])
      ≡ room_of l.self-inside.shape (get_or l.self-inside.pairs.items j (0, 0));
}
