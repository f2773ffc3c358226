use Rattle.trace.proofs.WorkedTraces as law
use Rattle.trace.proofs.laws.traces_are_spelled.Goals as goal

pub returns : goal.returns
returns c = law.traces_are_spelled
