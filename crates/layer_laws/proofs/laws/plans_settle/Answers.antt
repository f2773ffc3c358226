use Rattle.layer_laws.proofs.laws.plans_settle.Goals as goal
use Rattle.layer_laws.proofs.PlanCounters as law

pub returns : goal.returns
returns c = law.plans_settle
