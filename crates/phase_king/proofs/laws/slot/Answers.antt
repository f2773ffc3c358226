use Rattle.phase_king.proofs.laws.slot.Goals as goal
use Rattle.phase_king.proofs.Slots as slots

pub returns : goal.returns
returns c = slots.agrees
