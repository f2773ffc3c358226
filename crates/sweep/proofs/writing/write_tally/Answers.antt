use Rattle.std.proofs.Common.{rules}
use Rattle.edge_io.proofs.Writing.{writes_all, writes_then}
use Rattle.sweep.proofs.writing.write_tally.Goals as goal

pub returns : goal.returns
returns g c =
    writes_all c.new-writer.ensures (writes_then c.put_bound.ensures c.put_eras.ensures)
    c.finish.ensures (search rules)
