use Rattle.std.proofs.Common.{rules}
use Rattle.edge_io.proofs.Writing.{writes_all}
use Rattle.run_lines.proofs.shortened.put_counting.Goals as goal

pub returns : goal.returns
returns g c =
    writes_all c.new-writer.ensures c.put_all_lines.ensures c.finish.ensures (search rules)
