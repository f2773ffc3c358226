use Rattle.std.proofs.Common.{rules}
use Rattle.edge_io.proofs.Writing.{writes_all}
use Rattle.trace.proofs.halving_tracing.put_halving_trace.Goals as goal

pub returns : goal.returns
returns g c = writes_all c.new-writer.ensures c.put_moments.ensures c.finish.ensures (search rules)
