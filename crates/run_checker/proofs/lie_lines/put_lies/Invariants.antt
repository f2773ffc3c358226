use Rattle.std.proofs.Common.{◌≡◌, take}
use Rattle.std.specs.List.{flat_map}
use Rattle.construction.specs.Plans.{plan_nodes}
use Rattle.edge_io.specs.Writing.{Writes}
use Rattle.adversary_script.specs.Eras.{faulty_at}
use Rattle.run_checker.specs.RunLines.{lies_from}
use Rattle.run_checker.proofs.lie_lines.put_lies.Given as goal

abbrev pub invariant-loop-i : goal.invariant-loop-i
invariant-loop-i g l = record {
  same : l.runner ≡ l.fn.runner;
  wrote : Writes g.K.Sink.told
      (flat_map
      (lies_from l.fn.runner.script (plan_nodes l.fn.runner.plan) l.fn.runner.at
      l.fn.runner.states)
      (take l.i (faulty_at l.fn.runner.script l.fn.runner.at))) l.fn.writer l.writer;
}
