use Rattle.std.proofs.Common.{sym}
use Rattle.std.proofs.lemmas.List.{take_rest}
use Rattle.texts.proofs.Lines.{word_at, word_to_end}
use Rattle.edge_io.proofs.lines.first_word.Goals as goal

pub returns-in-Some : goal.returns-in-Some
returns-in-Some c = record {
  word = rw take_rest (word_at c.args.line.now c.in-Some.end (sym c.in-Some.ensures));
}

pub returns-in-None : goal.returns-in-None
returns-in-None c = record { word = word_to_end c.args.line.now (sym c.in-None.ensures) }
