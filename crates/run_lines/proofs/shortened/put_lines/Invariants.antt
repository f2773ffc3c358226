use Rattle.std.proofs.Common.{◌-◌, ◌≤◌, []}
use Rattle.counter_core.specs.NoLayers.{no_layer}
use Rattle.run_lines.proofs.Played.{LinesSoFar}
use Rattle.run_lines.proofs.shortened.put_lines.Given as goal

abbrev pub invariant-loop-writer : goal.invariant-loop-writer
invariant-loop-writer g l = record {
  so_far : LinesSoFar (λ o. no_layer) (λ o. []) (g.L.Lines.wording l.lines) l.fn.runner
      g.K.Sink.told l.runner.at l.runner l.fn.writer l.writer;
  within : l.runner.at ≤ l.fn.runner.script.rounds;
}

abbrev pub decreases-loop-writer : goal.decreases-loop-writer
decreases-loop-writer g l = l.fn.runner.script.rounds - l.runner.at
