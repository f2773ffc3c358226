use Rattle.edge_io.proofs.Writing.{writes_then, writes_last}
use Rattle.run_lines.proofs.counted.put_counted_line.Goals as goal

pub returns : goal.returns
returns g c =
    writes_then c.rising.ensures (writes_then c.put_words_at.ensures (writes_last c.byte.ensures))
