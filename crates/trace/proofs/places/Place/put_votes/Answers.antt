use Rattle.edge_io.proofs.Writing.{writes_then}
use Rattle.trace.proofs.places.Place.put_votes.Goals as goal

pub returns-clause-part : goal.returns-clause-part
returns-clause-part g c = writes_then c.text.ensures c.put_each_vote.ensures.words
