use Rattle.trace.specs.Desks.{IsFitFor}
use Rattle.trace.specs.Wants.{IsAt}
use Rattle.trace.proofs.BoostingTraced.{text}
use Rattle.trace.proofs.WordsSoFar.{SoFar}
use Rattle.trace.proofs.tracing.put_moments.Given as goal

abbrev pub invariant-loop : goal.invariant-loop
invariant-loop g l = record {
  here : IsAt l.fn.runner l.counter l.runner;
  so_far : SoFar g.K.Sink.told (text l.fn.runner l.nodes l.fn.want.first) l.fn.want.first
      l.fn.want.last l.counter l.fn.writer l.writer;
  desk : IsFitFor l.fn.runner l.desk;
}
