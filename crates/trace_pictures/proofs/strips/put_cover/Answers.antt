use Rattle.edge_io.proofs.Writing.{writes_none}
use Rattle.trace_pictures.proofs.strips.put_cover.Goals as goal

pub returns-in-Unmarked : goal.returns-in-Unmarked
returns-in-Unmarked g c = rw c.in-Unmarked.is writes_none

pub returns-in-Marked : goal.returns-in-Marked
returns-in-Marked g c =
    rw c.in-Marked.is
    (rw (c.left-x.ensures.value, c.spot_top-y.ensures.value, c.width-wide.ensures.value)
    at c.pieces.ensures)

pub returns-in-Locked : goal.returns-in-Locked
returns-in-Locked g c =
    rw c.in-Locked.is
    (rw (c.left-x.ensures.value, c.spot_top-y.ensures.value, c.width-wide.ensures.value)
    at c.pieces-in-Locked.ensures)
