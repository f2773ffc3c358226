use Rattle.phase_king.proofs.laws.locked_goes_on.Goals as goal
use Rattle.phase_king.proofs.LockedGroups as groups

pub returns : goal.returns
returns c = groups.locked_goes_on
