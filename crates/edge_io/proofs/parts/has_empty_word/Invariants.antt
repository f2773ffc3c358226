use Rattle.std.proofs.Common.{◌≡◌}
use Rattle.texts.specs.Lines.{has_empty_word, words_of}
use Rattle.edge_io.proofs.parts.has_empty_word.Given as goal

abbrev pub invariant-loop-word : goal.invariant-loop-word
invariant-loop-word l = has_empty_word l.word-iterator ≡ has_empty_word (words_of l.line)
