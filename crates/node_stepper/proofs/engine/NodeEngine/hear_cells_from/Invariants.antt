use Rattle.std.proofs.Common.{◌≡◌, ◌<◌, Option, List, ℕ}
use Rattle.node_stepper.specs.Nodes.{Standing}
use Rattle.edge_io.specs.Feeds.{feed_left}
use Rattle.node_stepper.specs.Hearing.{CellsFed}
use Rattle.node_stepper.proofs.engine.NodeEngine.hear_cells_from.Given as goal

abbrev pub invariant-loop-sender : goal.invariant-loop-sender
invariant-loop-sender g l = record {
  same : l.feed.source.ghost_name ≡ l.fn.feed.source.ghost_name;
  still : g.S.Source.faults l.feed.source.now ≡ g.S.Source.faults l.fn.feed.source.now;
  met : g.S.Source.met l.feed.source.now ≡ g.S.Source.met l.fn.feed.source.now;
  counter : l.self.counter ≡ l.fn.self.counter;
  some : 0 < l.sender;
  cells : (before : Standing g.row.M.Denot) → (start : Option (List ℕ))
      → CellsFed g.M.Machine.machine before l.fn.self start (feed_left g.S.Source.left l.fn.feed)
      l.fn.first
      → CellsFed g.M.Machine.machine before l.self start (feed_left g.S.Source.left l.feed)
      l.sender;
}
