use Rattle.std.proofs.Common.{◌+◌}
use Rattle.picture_parts.proofs.Parts.{writes_unless_is}
use Rattle.run_pictures.proofs.printing.put_row_end.Goals as goal

pub returns-else-from : goal.returns-else-from
returns-else-from g c =
    writes_unless_is (c.args.cell.node + 1) c.args.nodes _
    (rw (c.from.ensures, c.from-2.ensures) at c.if-from.false)
