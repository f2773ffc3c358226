use Rattle.edge_io.proofs.Writing.{writes_then}
use Rattle.trace_pictures.proofs.trace_pictures.put_level.Goals as goal

pub returns : goal.returns
returns g c =
    writes_then (rw (c.bottom.ensures.value, c.from.ensures) at c.pieces.ensures)
    (writes_then c.put_strip.ensures c.put_blocks.ensures)
