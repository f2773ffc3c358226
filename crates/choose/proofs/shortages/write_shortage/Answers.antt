use Rattle.std.proofs.Common.{rules}
use Rattle.edge_io.proofs.Writing.{writes_all, writes_then}
use Rattle.texts.proofs.Growth.{wrote_none}
use Rattle.choose.proofs.shortages.write_shortage.Goals as goal

pub returns-in-Some : goal.returns-in-Some
returns-in-Some g c =
    rw c.in-Some.is (writes_all c.new-writer.ensures
    (writes_then c.put_nodes.ensures c.put_faults.ensures) c.finish.ensures (search rules))

pub returns-in-None : goal.returns-in-None
returns-in-None g c = rw c.in-None.is (wrote_none (g.K.Sink.told c.args.sink.now))
