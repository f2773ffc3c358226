use Rattle.std.proofs.Common.{◌-◌, ◌≡◌, []}
use Rattle.texts.specs.Growth.{Wrote}
use Rattle.edge_io.specs.Gathering.{gathered_told}
use Rattle.edge_io.proofs.writer.Writer.flush.Given as goal

abbrev pub invariant-loop-self : goal.invariant-loop-self
invariant-loop-self g l = record {
  still : l.self.failed ≡ l.fn.self.failed;
  same : l.self.sink.ghost_name ≡ l.fn.self.sink.ghost_name;
  wrote : Wrote [] (gathered_told g.K.Sink.told l.fn.self) (gathered_told g.K.Sink.told l.self);
}

abbrev pub decreases-loop-self : goal.decreases-loop-self
decreases-loop-self g l = l.self.end - l.self.at
