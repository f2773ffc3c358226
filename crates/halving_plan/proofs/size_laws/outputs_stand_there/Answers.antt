use Rattle.halving_plan.proofs.OutputPlaces.{outputs_stand_there}
use Rattle.halving_plan.proofs.size_laws.outputs_stand_there.Goals as goal

pub returns : goal.returns
returns c = outputs_stand_there
