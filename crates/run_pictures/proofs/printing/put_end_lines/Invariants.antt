use Rattle.std.proofs.Common.{take}
use Rattle.std.specs.List.{flat_map}
use Rattle.edge_io.specs.Writing.{Writes}
use Rattle.run_pictures.specs.Charts.{end_line}
use Rattle.run_pictures.proofs.printing.put_end_lines.Given as goal

abbrev pub invariant-loop-i : goal.invariant-loop-i
invariant-loop-i g l =
    Writes g.K.Sink.told (flat_map end_line (take l.i l.ends)) l.fn.writer l.writer
