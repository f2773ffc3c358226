use Rattle.edge_io.proofs.Writing.{writes_then}
use Rattle.plan_certificate.proofs.tables.put_table.Goals as goal

pub returns : goal.returns
returns g c =
    writes_then (rw c.version.ensures at c.put_version.ensures)
    (writes_then c.put_base.ensures
    (writes_then c.put_levels.ensures (writes_then c.put_plan.ensures c.text.ensures)))
