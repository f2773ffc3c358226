use Rattle.std.proofs.Common.{◌≡◌}
use Rattle.edge_io.specs.Feeds.{feed_left}
use Rattle.edge_io.proofs.FeedBytes.{LineSoFar}
use Rattle.edge_io.proofs.feed.Feed.line_by_bytes.Given as goal

abbrev pub invariant-loop : goal.invariant-loop
invariant-loop g l = record {
  same : l.self.source.ghost_name ≡ l.fn.self.source.ghost_name;
  so_far : LineSoFar l.fn.limit l.fn.self.line_bytes l.self.line_bytes
      (feed_left g.S.Source.left l.fn.self) (feed_left g.S.Source.left l.self) l.line l.counter;
  still : g.S.Source.faults l.self.source.now ≡ g.S.Source.faults l.fn.self.source.now;
  met : g.S.Source.met l.self.source.now ≡ g.S.Source.met l.fn.self.source.now;
}
