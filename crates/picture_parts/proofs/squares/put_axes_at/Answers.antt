use Rattle.std.specs.Prelude.{◌%◌}
use Rattle.picture_parts.proofs.Parts.{writes_unless_is}
use Rattle.picture_parts.proofs.squares.put_axes_at.Goals as goal

pub returns-then-column-eq0 : goal.returns-then-column-eq0
returns-then-column-eq0 g c =
    rw c.if-column-eq0.true (rw c.band_top-top.ensures.value at c.pieces.ensures)

pub returns-else-column-eq0 : goal.returns-else-column-eq0
returns-else-column-eq0 g c = writes_unless_is (c.args.column % 120) 0 _ c.if-column-eq0.false
