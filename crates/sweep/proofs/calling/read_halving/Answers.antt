use Rattle.std.proofs.Common.{ap}
use Rattle.sweep.specs.Inputs.{halving_read}
use Rattle.sweep.proofs.calling.read_halving.Goals as goal

pub returns-in-Err-Refused-clause-fails : goal.returns-in-Err-Refused-clause-fails
returns-in-Err-Refused-clause-fails c =
    ap halving_read (rw c.in-Err-Refused.field-0-is at c.in-Err-Refused.ensures)

pub returns-in-Err-WriteFault-clause-fails : goal.returns-in-Err-WriteFault-clause-fails
returns-in-Err-WriteFault-clause-fails c =
    absurd (rw c.in-Err-WriteFault.field-0-is at c.in-Err-WriteFault.ensures)
