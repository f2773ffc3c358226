use Rattle.edge_io.specs.Writing.{Writes}
use Rattle.plan_reader.proofs.LevelTexts.{first_texts}
use Rattle.choose.specs.FrontText.{level_part}
use Rattle.choose.proofs.writing.put_levels.Given as goal

abbrev pub invariant-loop-i : goal.invariant-loop-i
invariant-loop-i g l =
    Writes g.K.Sink.told (first_texts level_part l.plan l.i) l.fn.writer l.writer
