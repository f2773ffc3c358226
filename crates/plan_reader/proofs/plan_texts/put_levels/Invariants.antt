use Rattle.edge_io.specs.Writing.{Writes}
use Rattle.plan_reader.specs.PlanTexts.{level_text}
use Rattle.plan_reader.proofs.LevelTexts.{first_texts}
use Rattle.plan_reader.proofs.plan_texts.put_levels.Given as goal

abbrev pub invariant-loop-i : goal.invariant-loop-i
invariant-loop-i g l =
    Writes g.K.Sink.told (first_texts (level_text l.version) l.plan l.i) l.fn.writer l.writer
