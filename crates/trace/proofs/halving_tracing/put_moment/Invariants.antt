use Rattle.std.specs.Prelude.{◌≡◌, take}
use Rattle.std.specs.List.{flat_map}
use Rattle.edge_io.specs.Writing.{Writes}
use Rattle.machine_runner.specs.Runners.{states_of}
use Rattle.halving_plan.specs.Laws.{machine_in}
use Rattle.trace.specs.HalvingDesks.{IsDeskFor}
use Rattle.trace.specs.HalvingNodeTexts.{node_text}
use Rattle.trace.proofs.halving_tracing.put_moment.Given as goal

abbrev pub invariant-loop-i : goal.invariant-loop-i
invariant-loop-i g l = record {
  wrote : Writes g.K.Sink.told (flat_map (node_text l.fn.runner.machine
      l.fn.runner.script l.fn.runner.at (states_of machine_in l.fn.runner)) (take l.i l.nodes))
      l.fn.writer l.writer;
  same : l.runner ≡ l.fn.runner;
  desk : IsDeskFor l.fn.runner.script l.desk;
  laid : l.desk.config.items ≡ states_of machine_in l.fn.runner;
}
