use Rattle.std.proofs.Common.{take}
use Rattle.std.specs.List.{flat_map}
use Rattle.edge_io.specs.Writing.{Writes}
use Rattle.trace_pictures.specs.TracePictures.{level_caption}
use Rattle.trace_pictures.proofs.trace_pictures.put_levels.Given as goal

abbrev pub invariant-loop-i : goal.invariant-loop-i
invariant-loop-i g l =
    Writes g.K.Sink.told (flat_map (level_caption l.frame) (take l.i l.levels)) l.fn.writer l.writer
