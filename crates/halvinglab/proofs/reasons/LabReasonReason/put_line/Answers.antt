use Rattle.texts.proofs.Growth.{wrote_none}
use Rattle.halvinglab.proofs.reasons.LabReasonReason.put_line.Goals as goal

pub returns-in-Input : goal.returns-in-Input
returns-in-Input g c = rw c.in-Input.is (wrote_none (g.K.Sink.told c.args.sink.now))

pub returns-in-Cut : goal.returns-in-Cut
returns-in-Cut g c = rw c.in-Cut.is (rw c.from.ensures at c.put_pieces.ensures)
