use Rattle.texts.specs.Lines.{lines_of}
use Rattle.halving_runs.proofs.Read as law
use Rattle.halving_runs.proofs.reading.read_behind.Goals as goal

pub returns-in-Err : goal.returns-in-Err
returns-in-Err c =
    rw c.unread.ensures (law.script_fails c.args.plan c.args.first_line (lines_of c.args.bytes.now)
    c.args.shape c.requires.nodes c.faults.result c.faults.ensures c.in-Err.error
    c.in-Err.ensures.exact)

pub returns : goal.returns
returns c =
    law.read_behind c.args.plan c.args.first_line (lines_of c.args.bytes.now) c.args.shape
    c.requires.nodes c.faults.result c.faults.ensures c.in_ok-machine.machine
    c.in_ok-machine.ensures c.in-Ok.script c.in-Ok.ensures.exact
