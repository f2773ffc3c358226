use Rattle.std.specs.Prelude.{◌≡◌}
use Rattle.trace.specs.HalvingDesks.{IsDeskFor, runner_at}
use Rattle.trace.proofs.HalvingNodesTraced.{text}
use Rattle.trace.proofs.WordsSoFar.{SoFar}
use Rattle.trace.proofs.halving_tracing.put_moments.Given as goal

abbrev pub invariant-loop : goal.invariant-loop
invariant-loop g l = record {
  here : l.runner ≡ runner_at l.fn.runner l.counter;
  so_far : SoFar g.K.Sink.told (text l.fn.runner l.nodes l.fn.want.first) l.fn.want.first
      l.fn.want.last l.counter l.fn.writer l.writer;
  desk : IsDeskFor l.fn.runner.script l.desk;
}
