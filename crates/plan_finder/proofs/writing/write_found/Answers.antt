use Rattle.std.proofs.Common.{rules}
use Rattle.edge_io.proofs.Writing.{writes_all}
use Rattle.plan_finder.proofs.writing.write_found.Goals as goal

pub returns : goal.returns
returns g c = writes_all c.new-writer.ensures c.put_found.ensures c.finish.ensures (search rules)
