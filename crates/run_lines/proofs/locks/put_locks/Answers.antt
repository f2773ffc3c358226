use Rattle.edge_io.proofs.Writing.{writes_is}
use Rattle.run_lines.proofs.LockLines.{locks_known}
use Rattle.run_lines.proofs.locks.put_locks.Goals as goal

pub returns : goal.returns
returns g c began plays =
    writes_is (locks_known g.O.Overlay.layer g.O.Overlay.kept began c.args.runner.now
    c.facts.ensures.whole c.facts.ensures.within plays c.requires) c.put_locks.ensures
