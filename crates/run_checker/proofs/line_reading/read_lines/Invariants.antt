use Rattle.std.proofs.Common.{◌≡◌, ◌-◌}
use Rattle.edge_io.specs.Feeds.{feed_left}
use Rattle.run_checker.proofs.LinesRead.{Reads}
use Rattle.run_checker.proofs.line_reading.read_lines.Given as goal

abbrev pub invariant-loop-number : goal.invariant-loop-number
invariant-loop-number g l = record {
  same : l.feed.source.ghost_name ≡ l.fn.feed.source.ghost_name;
  still : g.S.Source.faults l.feed.source.now ≡ g.S.Source.faults l.fn.feed.source.now;
  met : g.S.Source.met l.feed.source.now ≡ g.S.Source.met l.fn.feed.source.now;
  stands : Reads g.S.Source.left l.fn.reader l.limit (feed_left g.S.Source.left l.fn.feed) l.feed
      l.reader l.number;
}

abbrev pub decreases-loop-number : goal.decreases-loop-number
decreases-loop-number g l = l.limit - l.feed.line_bytes
