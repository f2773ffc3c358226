use Rattle.std.proofs.Common.{◌≡◌}
use Rattle.edge_io.specs.Feeds.{feed_left}
use Rattle.node_stepper.proofs.Answering.{ServedSoFar}
use Rattle.node_stepper.proofs.Gathered.{Gives, first_cell}
use Rattle.node_stepper.proofs.engine.NodeEngine.serve.Given as goal

abbrev pub invariant-loop-packet : goal.invariant-loop-packet
invariant-loop-packet g l = record {
  same : l.feed.source.ghost_name ≡ l.fn.feed.source.ghost_name;
  still : g.S.Source.faults l.feed.source.now ≡ g.S.Source.faults l.fn.feed.source.now;
  met : g.S.Source.met l.feed.source.now ≡ g.S.Source.met l.fn.feed.source.now;
  so_far : ServedSoFar g.M.Machine.machine l.fn.self
      (Gives g.K.Sink.told (first_cell g.M.Machine.machine l.fn.self) l.initial.writer l.writer)
      l.self (feed_left g.S.Source.left l.fn.feed)
      (feed_left g.S.Source.left l.feed) l.packet;
}
