use Rattle.std.proofs.Common.{◌≡◌}
use Rattle.std.specs.List.{flat_map, range_with_len}
use Rattle.edge_io.specs.Writing.{Writes}
use Rattle.run_checker.specs.RunLines.{first_start}
use Rattle.run_checker.proofs.start_lines.put_first_starts.Given as goal

abbrev pub invariant-loop-v : goal.invariant-loop-v
invariant-loop-v g l = record {
  same : l.runner ≡ l.fn.runner;
  wrote : Writes g.K.Sink.told
      (flat_map (first_start l.fn.runner.script l.fn.runner.states)
      (range_with_len 0 l.v)) l.fn.writer l.writer;
}
