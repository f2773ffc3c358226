use Rattle.edge_io.proofs.Writing.{writes_none}
use Rattle.trace_pictures.proofs.trace_pictures.put_group_legend_if.Goals as goal

pub returns-else-are_groups : goal.returns-else-are_groups
returns-else-are_groups g c = rw c.if-are_groups.false writes_none
