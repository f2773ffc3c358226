use Rattle.plan_laws.proofs.Stretches as laws
use Rattle.plan_laws.proofs.laws.steps_by_stretches.Goals as goal

pub returns : goal.returns
returns c = laws.steps_by_stretches
