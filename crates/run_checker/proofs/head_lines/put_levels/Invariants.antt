use Rattle.edge_io.specs.Writing.{Writes}
use Rattle.run_checker.proofs.LevelLines.{first_texts}
use Rattle.run_checker.proofs.head_lines.put_levels.Given as goal

abbrev pub invariant-loop-i : goal.invariant-loop-i
invariant-loop-i g l =
    Writes g.K.Sink.told (first_texts l.version l.plan l.i) l.fn.writer l.writer
