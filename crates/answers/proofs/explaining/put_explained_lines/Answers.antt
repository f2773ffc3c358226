use Rattle.std.proofs.Common.{[]}
use Rattle.edge_io.proofs.Writing.{writes_then, writes_is, writes_last}
use Rattle.answers.proofs.Explained.{locks_are}
use Rattle.answers.proofs.explaining.put_explained_lines.Goals as goal

pub put_locks-requires : goal.put_locks-requires
put_locks-requires g c = c.put_why.ensures.knows

pub returns : goal.returns
returns g c =
    let why = c.put_why.ensures in
    writes_then (rw c.bound.ensures at c.put_bound.ensures)
    (writes_then why.lines
    (writes_last (writes_is (locks_are c.args.plan.now _ _ c.requires.plan why.played)
    (c.put_locks.ensures [] why.played.plays))))
