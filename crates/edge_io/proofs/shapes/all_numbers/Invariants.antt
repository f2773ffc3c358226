use Rattle.std.proofs.Common.{◌≡◌}
use Rattle.texts.specs.Shapes.{all_numbers}
use Rattle.texts.proofs.Shapes.{with_front}
use Rattle.edge_io.proofs.shapes.all_numbers.Given as goal

abbrev pub invariant-loop-word : goal.invariant-loop-word
invariant-loop-word l =
    all_numbers l.fn.words ≡ with_front l.numbers.items (all_numbers l.word-iterator)
