use Rattle.std.proofs.Common.{sym, ap, ◌∙◌}
use Rattle.picture_parts.specs.declared.frames.Frame.{Frame}
use Rattle.run_pictures.specs.Charts.{frame_of}
use Rattle.run_pictures.specs.Pictures.{has_column}
use Rattle.picture_parts.proofs.Parts.{writes_unless}
use Rattle.run_pictures.proofs.marks.put_mark_row.Goals as goal

pub returns-else-has_column : goal.returns-else-has_column
returns-else-has_column g c =
    writes_unless (has_column (frame_of c.args.chart.now) c.args.t) _
    (sym (c.has_column.ensures ∙ ap (λ (f : Frame). has_column f c.args.t) c.frame-frame.ensures)
    ∙ c.if-has_column.false)
