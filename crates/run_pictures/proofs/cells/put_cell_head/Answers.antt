use Rattle.picture_parts.proofs.Parts.{writes_unless_is}
use Rattle.run_pictures.proofs.cells.put_cell_head.Goals as goal

pub returns-else-cell-eq0 : goal.returns-else-cell-eq0
returns-else-cell-eq0 g c = writes_unless_is c.args.cell.node 0 _ c.if-cell-eq0.false
