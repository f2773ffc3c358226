use Rattle.draw.proofs.Drawn.{draws_read}
use Rattle.draw.proofs.calling.draw_input.Goals as goal

pub returns-clause-draws : goal.returns-clause-draws
returns-clause-draws g c =
    draws_read _ _ _ _ _ _ _ c.in_ok-input.input.items c.in_ok-input.ensures.bytes
    c.in_ok-input.ensures.end c.in_ok-input.ensures.short c.in_ok-input.ensures.ok _
    (rw c.deref.ensures.value at c.draw_text.ensures)
