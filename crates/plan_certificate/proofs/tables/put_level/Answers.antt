use Rattle.edge_io.proofs.Writing.{writes_then}
use Rattle.plan_certificate.proofs.tables.put_level.Goals as goal

pub returns : goal.returns
returns g c = writes_then c.put_level_front.ensures c.put_spares_end.ensures
