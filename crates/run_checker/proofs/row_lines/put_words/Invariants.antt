use Rattle.std.specs.List.{flat_map, range_with_len}
use Rattle.edge_io.specs.Writing.{Writes}
use Rattle.run_checker.specs.RunLines.{node_word}
use Rattle.run_checker.proofs.row_lines.put_words.Given as goal

abbrev pub invariant-loop-v : goal.invariant-loop-v
invariant-loop-v g l =
    Writes g.K.Sink.told
    (flat_map (node_word l.runner.plan l.faulty.ids l.runner.states) (range_with_len 0 l.v))
    l.fn.writer l.writer
