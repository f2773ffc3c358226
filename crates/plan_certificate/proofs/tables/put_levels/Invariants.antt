use Rattle.edge_io.specs.Writing.{Writes}
use Rattle.plan_certificate.proofs.LevelLines.{first_lines}
use Rattle.plan_certificate.proofs.tables.put_levels.Given as goal

abbrev pub invariant-loop-i : goal.invariant-loop-i
invariant-loop-i g l = Writes g.K.Sink.told (first_lines l.plan l.i) l.fn.writer l.writer
