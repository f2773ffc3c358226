use Rattle.std.proofs.Common.{◌≡◌, ◌-◌, ◌≤◌, true}
use Rattle.run_checker.specs.Rows.{words_compared}
use Rattle.run_checker.proofs.rows.Showing.compare_row.Given as goal

abbrev pub invariant-loop-word : goal.invariant-loop-word
invariant-loop-word l = record {
  within : l.v ≤ l.self.faulty.now.nodes;
  read : words_compared l.self.depth l.self.faulty.now.ids l.self.config.now.current 0
      l.self.faulty.now.nodes true l.fn.words
      ≡ words_compared l.self.depth l.self.faulty.now.ids l.self.config.now.current l.v
      (l.self.faulty.now.nodes - l.v) l.same l.word-iterator;
}
