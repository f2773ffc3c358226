use Rattle.edge_io.proofs.Writing.{writes_none}
use Rattle.trace_pictures.proofs.shares.put_arrow_by.Goals as goal

pub returns-in-Votes : goal.returns-in-Votes
returns-in-Votes g c = rw c.in-Votes.is writes_none
