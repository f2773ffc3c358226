use Rattle.picture_parts.proofs.Parts.{writes_unless}
use Rattle.trace_pictures.proofs.strips.put_note_head.Goals as goal

pub returns-else-note : goal.returns-else-note
returns-else-note g c = writes_unless c.args.note.now.is_first _ c.if-note.false
