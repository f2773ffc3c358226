use Rattle.std.proofs.Common.{ap}
use Rattle.edge_io.proofs.Writing.{writes_none, writes_at, writes_is}
use Rattle.trace_pictures.specs.Strips.{note_picture}
use Rattle.trace_pictures.proofs.strips.put_note_pictures.Goals as goal

pub loop-note-init : goal.loop-note-init
loop-note-init g c = writes_none

pub loop-note-preserved : goal.loop-note-preserved
loop-note-preserved g c =
    let picture = note_picture c.args.frame in
    writes_at picture c.args.notes.now c.loop-note.note-index c.note-item.result
    c.loop-note-test.true c.loop-note.invariant
    (writes_is (ap picture c.note-item.is) c.put_note_picture.ensures)
