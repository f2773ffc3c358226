use Rattle.std.proofs.Common.{◌≡◌}
use Rattle.std.specs.List.{flat_map, range_with_len}
use Rattle.edge_io.specs.Writing.{Writes}
use Rattle.run_checker.specs.RunLines.{lie_if}
use Rattle.run_checker.proofs.lie_lines.put_lies_from.Given as goal

abbrev pub invariant-loop-v : goal.invariant-loop-v
invariant-loop-v g l = record {
  same : l.runner ≡ l.fn.runner;
  wrote : Writes g.K.Sink.told
      (flat_map (lie_if l.fn.runner.script l.fn.runner.at l.fn.runner.states l.u)
      (range_with_len 0 l.v)) l.fn.writer l.writer;
}
