use Rattle.sweep.proofs.WorkedSweeps as law
use Rattle.sweep.proofs.worked.sweeps_are_spelled.Goals as goal

pub returns : goal.returns
returns c = law.sweeps_are_spelled
