use Rattle.std.proofs.Common.{take}
use Rattle.std.specs.List.{flat_map}
use Rattle.edge_io.specs.Writing.{Writes}
use Rattle.trace_pictures.specs.TracePictures.{start_mark}
use Rattle.trace_pictures.proofs.trace_pictures.put_starts.Given as goal

abbrev pub invariant-loop-i : goal.invariant-loop-i
invariant-loop-i g l =
    Writes g.K.Sink.told (flat_map (start_mark l.frame l.cells) (take l.i l.eras))
    l.fn.writer l.writer
