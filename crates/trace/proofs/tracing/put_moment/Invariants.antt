use Rattle.std.specs.Prelude.{◌≡◌, take}
use Rattle.std.specs.List.{flat_map}
use Rattle.edge_io.specs.Writing.{Writes}
use Rattle.trace.specs.Desks.{IsFitFor}
use Rattle.trace.specs.NodeTexts.{node_text}
use Rattle.trace.proofs.tracing.put_moment.Given as goal

abbrev pub invariant-loop-i : goal.invariant-loop-i
invariant-loop-i g l = record {
  wrote : Writes g.K.Sink.told (flat_map (node_text l.fn.runner.plan
      l.fn.runner.script l.fn.runner.at l.fn.runner.states) (take l.i l.nodes))
      l.fn.writer l.writer;
  same : l.runner ≡ l.fn.runner;
  desk : IsFitFor l.fn.runner l.desk;
  laid : l.desk.config.items ≡ l.fn.runner.states;
}
