use Rattle.std.proofs.Common.{sym, ◌∙◌}
use Rattle.run_pictures.specs.Pictures.{is_before}
use Rattle.picture_parts.proofs.Parts.{writes_if, writes_unless}
use Rattle.run_pictures.proofs.marks.put_bound_at.Goals as goal

pub returns-then-is_before : goal.returns-then-is_before
returns-then-is_before g c =
    writes_if (is_before c.args.t c.args.next) (sym c.is_before.ensures ∙ c.if-is_before.true)
    c.put_mark_row.ensures

pub returns-else-is_before : goal.returns-else-is_before
returns-else-is_before g c =
    writes_unless (is_before c.args.t c.args.next) _
    (sym c.is_before.ensures ∙ c.if-is_before.false)
