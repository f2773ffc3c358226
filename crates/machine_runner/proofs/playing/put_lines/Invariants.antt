use Rattle.machine_runner.proofs.LinesSoFar.{LinesSoFar}
use Rattle.machine_runner.proofs.playing.put_lines.Given as goal

abbrev pub invariant-loop-t : goal.invariant-loop-t
invariant-loop-t g l =
    LinesSoFar g.K.Sink.told g.M.Machine.machine (g.L.ShownLines.front l.lines)
    (g.L.ShownLines.word l.lines) l.fn.runner l.t l.runner l.fn.writer l.writer
