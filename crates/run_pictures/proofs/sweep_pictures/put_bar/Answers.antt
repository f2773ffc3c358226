use Rattle.edge_io.proofs.Writing.{writes_then}
use Rattle.run_pictures.proofs.sweep_pictures.put_bar.Goals as goal

pub returns : goal.returns
returns g c =
    writes_then c.text.ensures
    (writes_then c.put_tally_words.ensures
    (rw (
      c.saturating_sub.ensures,
      c.saturating_sub-2.ensures,
      c.bar_left.ensures,
      c.bar_base.ensures,
      c.bar_colour.ensures,
    ) at c.pieces.ensures))
