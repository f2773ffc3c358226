use Rattle.std.specs.List.{flat_map, range_with_len}
use Rattle.edge_io.specs.Writing.{Writes}
use Rattle.sweep.specs.Tallies.{place_line}
use Rattle.sweep.proofs.writing.put_locked.Given as goal

abbrev pub invariant-loop-place : goal.invariant-loop-place
invariant-loop-place g l =
    Writes g.K.Sink.told (flat_map (place_line l.era) (range_with_len 0 l.place)) l.fn.writer
    l.writer
