use Rattle.edge_io.proofs.Writing.{writes_then}
use Rattle.trace_pictures.proofs.trace_printing.put_register.Goals as goal

pub returns : goal.returns
returns g c =
    writes_then c.put_strip.ensures
    (writes_then c.text.ensures
    (writes_then c.put_number_or_none.ensures
    (writes_then (rw c.held_word.ensures at c.text-2.ensures)
    (writes_then c.put_own_or_nothing.ensures c.put_heard_or_nothing.ensures))))
