use Rattle.edge_io.proofs.Writing.{writes_none}
use Rattle.picture_parts.proofs.line_words.put_era.Goals as goal

pub returns-in-None : goal.returns-in-None
returns-in-None g c = rw c.in-None.is writes_none
