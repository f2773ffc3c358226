use Rattle.std.proofs.Common.{◌≡◌, ◌+◌, take, length}
use Rattle.plan_certificate.specs.TableLines.{numbers_named}
use Rattle.texts.specs.Lines.{words_of}
use Rattle.texts.proofs.Shapes.{with_front}
use Rattle.plan_certificate.proofs.table_lines.numbers_named.Given as goal

abbrev pub invariant-loop-name : goal.invariant-loop-name
invariant-loop-name g l = record {
  size : length l.numbers ≡ g.row.N;
  count : l.i + length l.name-iterator ≡ g.row.N;
  so_far : numbers_named (words_of l.names) l.fn.words
      ≡ with_front (take l.i l.numbers) (numbers_named l.name-iterator l.words);
}
