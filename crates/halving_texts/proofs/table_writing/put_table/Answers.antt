use Rattle.edge_io.proofs.Writing.{writes_then}
use Rattle.halving_texts.proofs.table_writing.put_table.Goals as goal

pub returns : goal.returns
returns g c =
    writes_then c.put_plan.ensures
    (writes_then c.put_sizes.ensures
    (writes_then (rw c.whole.ensures at c.put_groups.ensures)
    (writes_then c.put_nodes.ensures c.text.ensures)))
