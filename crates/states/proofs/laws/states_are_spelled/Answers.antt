use Rattle.states.proofs.WorkedStates as worked
use Rattle.states.proofs.laws.states_are_spelled.Goals as goal

pub returns : goal.returns
returns c = worked.states_are_spelled
