use Rattle.std.specs.List.{flat_map, range_with_len}
use Rattle.edge_io.specs.Writing.{Writes}
use Rattle.run_pictures.specs.ChoicePictures.{decade_line}
use Rattle.run_pictures.proofs.choice_pictures.put_decades.Given as goal

abbrev pub invariant-loop-decade : goal.invariant-loop-decade
invariant-loop-decade g l =
    Writes g.K.Sink.told (flat_map (decade_line l.base) (range_with_len 0 l.decade))
    l.fn.writer l.writer
