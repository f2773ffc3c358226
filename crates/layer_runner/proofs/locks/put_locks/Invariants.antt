use Rattle.std.specs.Prelude.{None, slice_index_or}
use Rattle.std.specs.List.{flat_map, range_with_len}
use Rattle.edge_io.specs.Writing.{Writes}
use Rattle.machine_runner.specs.RunTexts.{era_line}
use Rattle.layer_runner.proofs.locks.put_locks.Given as goal

abbrev pub invariant-loop-era : goal.invariant-loop-era
invariant-loop-era g l =
    let p = g.P.Play.position l.play in
    Writes g.K.Sink.told (flat_map (era_line p.script (λ j. slice_index_or p.locks j None))
    (range_with_len 0 l.era)) l.fn.writer l.writer
