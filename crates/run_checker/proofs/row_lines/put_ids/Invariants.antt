use Rattle.std.proofs.Common.{take}
use Rattle.std.specs.List.{flat_map}
use Rattle.edge_io.specs.Writing.{Writes}
use Rattle.run_checker.specs.RunLines.{number_word}
use Rattle.run_checker.proofs.row_lines.put_ids.Given as goal

abbrev pub invariant-loop-i : goal.invariant-loop-i
invariant-loop-i g l =
    Writes g.K.Sink.told (flat_map number_word (take l.i l.faulty.ids)) l.fn.writer l.writer
