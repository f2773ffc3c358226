use Rattle.std.proofs.Common.{take}
use Rattle.std.specs.List.{flat_map}
use Rattle.edge_io.specs.Writing.{Writes}
use Rattle.run_pictures.specs.Cells.{cell_picture}
use Rattle.run_pictures.proofs.cells.put_cells.Given as goal

abbrev pub invariant-loop-i : goal.invariant-loop-i
invariant-loop-i g l =
    Writes g.K.Sink.told (flat_map (cell_picture l.frame) (take l.i l.cells)) l.fn.writer l.writer
