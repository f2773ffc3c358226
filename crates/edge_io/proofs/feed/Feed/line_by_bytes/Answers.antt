use Rattle.edge_io.proofs.FeedBytes.{fault_behind}
use Rattle.edge_io.proofs.feed.Feed.line_by_bytes.Goals as goal

pub returns-in-Err-clause-line : goal.returns-in-Err-clause-line
returns-in-Err-clause-line g c =
    fault_behind _ _ _ _ _ _ _ _ _ c.loop.invariant.so_far _ c.in-Err.ensures.bytes

pub returns-in-Err-line_byte-clause-line : goal.returns-in-Err-line_byte-clause-line
returns-in-Err-line_byte-clause-line g c =
    fault_behind _ _ _ _ _ _ _ _ _ c.loop.invariant.so_far _ c.in-Err-line_byte.ensures.bytes
