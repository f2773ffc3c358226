use Rattle.std.proofs.Common.{take}
use Rattle.std.specs.List.{flat_map}
use Rattle.edge_io.specs.Writing.{Writes}
use Rattle.trace_pictures.specs.Strips.{reign_picture}
use Rattle.trace_pictures.proofs.turns.put_reigns.Given as goal

abbrev pub invariant-loop-i : goal.invariant-loop-i
invariant-loop-i g l =
    Writes g.K.Sink.told (flat_map (reign_picture l.frame) (take l.i l.reigns)) l.fn.writer l.writer
