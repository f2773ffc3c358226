use Rattle.std.specs.List.{flat_map, range_with_len}
use Rattle.edge_io.specs.Writing.{Writes}
use Rattle.run_lines.specs.RunTexts.{word_or_star}
use Rattle.run_lines.proofs.counted.put_words_at.Given as goal

abbrev pub invariant-loop-v : goal.invariant-loop-v
invariant-loop-v g l = Writes g.K.Sink.told (flat_map
    (word_or_star (g.L.OutputLines.word_at l.lines l.output.value) l.faulty.ids)
    (range_with_len 0 l.v)) l.fn.writer l.writer
