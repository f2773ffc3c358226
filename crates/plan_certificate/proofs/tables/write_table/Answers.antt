use Rattle.std.proofs.Common.{rules}
use Rattle.edge_io.proofs.Writing.{writes_all}
use Rattle.plan_certificate.proofs.tables.write_table.Goals as goal

pub returns : goal.returns
returns g c = writes_all c.new-writer.ensures c.put_table.ensures c.finish.ensures (search rules)
