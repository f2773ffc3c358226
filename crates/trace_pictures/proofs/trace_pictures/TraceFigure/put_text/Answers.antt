use Rattle.std.proofs.Common.{ap, ◌∙◌, arith}
use Rattle.std.specs.List.{flat_map}
use Rattle.std.proofs.lemmas.List.{take_all}
use Rattle.edge_io.proofs.Writing.{writes_none, writes_at, writes_is}
use Rattle.trace_pictures.specs.Traces.{note_line}
use Rattle.trace_pictures.proofs.trace_pictures.TraceFigure.put_text.Goals as goal

pub loop-note-init : goal.loop-note-init
loop-note-init g c = writes_none

pub loop-note-preserved : goal.loop-note-preserved
loop-note-preserved g c =
    let line = note_line c.args.self.now.frame.first in
    writes_at line c.lines-notes.result.now c.loop-note.note-index c.note-item.result
    c.loop-note-test.true c.loop-note.invariant
    (writes_is (ap line c.note-item.is) c.put_note.ensures)

pub returns : goal.returns
returns g c =
    let line = note_line c.args.self.now.frame.first in
    writes_is
    (ap (flat_map line) (take_all c.loop-note.note-index c.lines-notes.result.now (omega arith)
    ∙ c.lines-notes.ensures)) c.loop-note.invariant
