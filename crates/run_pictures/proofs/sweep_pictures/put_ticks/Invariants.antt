use Rattle.std.proofs.Common.{take}
use Rattle.std.specs.List.{flat_map}
use Rattle.edge_io.specs.Writing.{Writes}
use Rattle.run_pictures.specs.SweepPictures.{tick_picture}
use Rattle.run_pictures.proofs.sweep_pictures.put_ticks.Given as goal

abbrev pub invariant-loop-i : goal.invariant-loop-i
invariant-loop-i g l =
    Writes g.K.Sink.told (flat_map (tick_picture l.sweep) (take l.i l.ticks)) l.fn.writer l.writer
