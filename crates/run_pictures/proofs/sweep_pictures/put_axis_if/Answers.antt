use Rattle.std.proofs.Common.{sym, ◌∙◌}
use Rattle.run_pictures.specs.SweepPictures.{is_first}
use Rattle.picture_parts.proofs.Parts.{writes_if, writes_unless}
use Rattle.run_pictures.proofs.sweep_pictures.put_axis_if.Goals as goal

pub returns-then-is_first : goal.returns-then-is_first
returns-then-is_first g c =
    writes_if (is_first c.args.tally) (sym c.is_first.ensures ∙ c.if-is_first.true)
    (rw (
      c.from-top.ensures,
      c.bar_base.ensures,
      c.sweep_right.ensures.value,
      c.from.ensures,
    ) at c.pieces.ensures)

pub returns-else-is_first : goal.returns-else-is_first
returns-else-is_first g c =
    writes_unless (is_first c.args.tally) _ (sym c.is_first.ensures ∙ c.if-is_first.false)
