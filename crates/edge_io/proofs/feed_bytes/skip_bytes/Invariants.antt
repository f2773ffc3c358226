use Rattle.std.proofs.Common.{◌≡◌}
use Rattle.edge_io.specs.Feeds.{feed_left}
use Rattle.edge_io.proofs.OneByOne.{SoMany}
use Rattle.edge_io.proofs.feed_bytes.skip_bytes.Given as goal

abbrev pub invariant-loop : goal.invariant-loop
invariant-loop g l = record {
  same : l.feed.source.ghost_name ≡ l.fn.feed.source.ghost_name;
  still : g.S.Source.faults l.feed.source.now ≡ g.S.Source.faults l.fn.feed.source.now;
  met : g.S.Source.met l.feed.source.now ≡ g.S.Source.met l.fn.feed.source.now;
  lines : l.feed.line_bytes ≡ l.fn.feed.line_bytes;
  so_far : SoMany (feed_left g.S.Source.left l.fn.feed) (feed_left g.S.Source.left l.feed)
      l.counter;
}
