use Rattle.std.specs.List.{flat_map, range_with_len}
use Rattle.edge_io.specs.Writing.{Writes}
use Rattle.machine_runner.specs.RunTexts.{era_line}
use Rattle.machine_runner.specs.ShownTexts.{lock_played}
use Rattle.machine_runner.proofs.lock_lines.put_locks.Given as goal

abbrev pub invariant-loop-era : goal.invariant-loop-era
invariant-loop-era g l =
    let r = l.runner in
    Writes g.K.Sink.told (flat_map
    (era_line r.script (lock_played (g.M.Machine.machine r.machine) r.script))
    (range_with_len 0 l.era)) l.fn.writer l.writer
