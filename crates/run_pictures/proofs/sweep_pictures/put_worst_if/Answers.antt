use Rattle.edge_io.proofs.Writing.{writes_then}
use Rattle.picture_parts.proofs.Parts.{writes_if, writes_unless}
use Rattle.run_pictures.proofs.sweep_pictures.put_worst_if.Goals as goal

pub returns-then-tally : goal.returns-then-tally
returns-then-tally g c =
    writes_if c.args.tally.is_worst c.if-tally.true
    (writes_then c.put_worst_front.ensures
    (writes_then c.put_tally_words.ensures c.text.ensures))

pub returns-else-tally : goal.returns-else-tally
returns-else-tally g c = writes_unless c.args.tally.is_worst _ c.if-tally.false
