use Rattle.std.proofs.Common.{rules}
use Rattle.edge_io.proofs.Writing.{writes_all}
use Rattle.choose.proofs.writing_both.write_both_front.Goals as goal

pub returns : goal.returns
returns g c =
    writes_all c.new-writer.ensures c.put_both_front.ensures c.finish.ensures (search rules)
