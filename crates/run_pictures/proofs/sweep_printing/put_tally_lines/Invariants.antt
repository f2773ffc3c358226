use Rattle.std.proofs.Common.{take}
use Rattle.std.specs.List.{flat_map}
use Rattle.edge_io.specs.Writing.{Writes}
use Rattle.run_pictures.specs.Sweeps.{tally_line}
use Rattle.run_pictures.proofs.sweep_printing.put_tally_lines.Given as goal

abbrev pub invariant-loop-i : goal.invariant-loop-i
invariant-loop-i g l =
    Writes g.K.Sink.told (flat_map tally_line (take l.i l.tallies)) l.fn.writer l.writer
