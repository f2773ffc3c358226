use Rattle.std.proofs.Common.{take}
use Rattle.std.specs.List.{flat_map}
use Rattle.edge_io.specs.Writing.{Writes}
use Rattle.trace_pictures.specs.Traces.{note_line}
use Rattle.trace_pictures.proofs.trace_pictures.TraceFigure.put_text.Given as goal

abbrev pub invariant-loop-note : goal.invariant-loop-note
invariant-loop-note g l =
    Writes g.K.Sink.told (flat_map (note_line l.first) (take l.note-index l.notes))
    l.fn.writer l.writer
