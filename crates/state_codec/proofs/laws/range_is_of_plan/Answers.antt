use Rattle.state_codec.proofs.PlanStates as laws
use Rattle.state_codec.proofs.laws.range_is_of_plan.Goals as goal

pub returns : goal.returns
returns c = λ plan accepted v lt state.
    (laws.in_range_of_node plan accepted v lt state, laws.state_of_node plan accepted v lt state)
