use Rattle.run_lines.proofs.laws.hold_words_are_exact.Goals as goal
use Rattle.run_lines.proofs.HoldLaws as law

pub returns : goal.returns
returns c = law.hold_words_are_exact c.hold_words.ensures.exact
