use Rattle.edge_io.proofs.PendingLaws.{part_goes_on, text_goes_on}
use Rattle.edge_io.proofs.laws.pending_bytes_decide_nothing.Goals as goal

pub returns : goal.returns
returns g c = record { part = part_goes_on _ _ _; text = text_goes_on _ _ _ }
