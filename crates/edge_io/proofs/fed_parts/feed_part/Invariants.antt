use Rattle.std.proofs.Common.{◌≡◌, ◌-◌}
use Rattle.texts.specs.Parts.{with_skips}
use Rattle.edge_io.specs.Feeds.{feed_left}
use Rattle.edge_io.proofs.Standing.{Standing}
use Rattle.edge_io.proofs.fed_parts.feed_part.Given as goal

abbrev pub invariant-loop-line : goal.invariant-loop-line
invariant-loop-line g l = record {
  same : l.feed.source.ghost_name ≡ l.fn.feed.source.ghost_name;
  still : g.S.Source.faults l.feed.source.now ≡ g.S.Source.faults l.fn.feed.source.now;
  met : g.S.Source.met l.feed.source.now ≡ g.S.Source.met l.fn.feed.source.now;
  stands : Standing (with_skips g.P.LineReader.step l.form) l.form l.fn.reader l.first l.limit
      l.fn.feed.line_bytes (feed_left g.S.Source.left l.fn.feed) (feed_left g.S.Source.left l.feed)
      l.reader l.number l.lines l.feed.line_bytes;
}

abbrev pub decreases-loop-line : goal.decreases-loop-line
decreases-loop-line g l = l.limit - l.feed.line_bytes
