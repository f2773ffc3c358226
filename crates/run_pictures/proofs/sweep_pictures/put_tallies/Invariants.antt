use Rattle.std.proofs.Common.{take}
use Rattle.std.specs.List.{flat_map}
use Rattle.edge_io.specs.Writing.{Writes}
use Rattle.run_pictures.specs.SweepPictures.{tally_picture}
use Rattle.run_pictures.proofs.sweep_pictures.put_tallies.Given as goal

abbrev pub invariant-loop-i : goal.invariant-loop-i
invariant-loop-i g l =
    Writes g.K.Sink.told (flat_map (tally_picture l.sweep) (take l.i l.tallies))
    l.fn.writer l.writer
