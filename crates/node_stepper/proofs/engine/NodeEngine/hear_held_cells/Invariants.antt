use Rattle.std.proofs.Common.{◌≡◌}
use Rattle.edge_io.specs.Feeds.{feed_left}
use Rattle.node_stepper.specs.Hearing.{CellsFed}
use Rattle.node_stepper.proofs.engine.NodeEngine.hear_held_cells.Given as goal

abbrev pub invariant-loop-sender : goal.invariant-loop-sender
invariant-loop-sender g l = record {
  source : l.feed.source ≡ l.fn.feed.source;
  cells : CellsFed g.M.Machine.machine l.fn.self l.self (feed_left g.S.Source.left l.fn.feed)
      (feed_left g.S.Source.left l.feed) l.sender;
}
