use Rattle.edge_io.proofs.Writing.{writes_then}
use Rattle.trace_pictures.proofs.turns.put_reign.Goals as goal

pub returns : goal.returns
returns g c =
    writes_then
    (writes_then (rw c.configuration.ensures at c.pieces.ensures)
    (writes_then c.put_strip.ensures (rw c.turn_word.ensures at c.pieces-2.ensures)))
    (writes_then (rw (c.share.ensures, c.edge.ensures) at c.put_gold_part.ensures)
    c.put_king.ensures)
