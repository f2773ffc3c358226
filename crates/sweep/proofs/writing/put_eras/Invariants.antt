use Rattle.std.proofs.Common.{take}
use Rattle.std.specs.List.{flat_map}
use Rattle.edge_io.specs.Writing.{Writes}
use Rattle.sweep.specs.Tallies.{runs_text}
use Rattle.sweep.proofs.writing.put_eras.Given as goal

abbrev pub invariant-loop-j : goal.invariant-loop-j
invariant-loop-j g l =
    Writes g.K.Sink.told (flat_map runs_text (take l.j l.tally)) l.fn.writer l.writer
