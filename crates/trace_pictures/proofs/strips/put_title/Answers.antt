use Rattle.edge_io.proofs.Writing.{writes_then}
use Rattle.trace_pictures.proofs.strips.put_title.Goals as goal

pub returns : goal.returns
returns g c =
    writes_then (rw (c.band_top.ensures.value, c.from.ensures) at c.pieces.ensures)
    (writes_then c.put_title_word.ensures c.text.ensures)
