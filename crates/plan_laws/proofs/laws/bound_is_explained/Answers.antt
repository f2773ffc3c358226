use Rattle.plan_laws.proofs.laws.bound_is_explained.Goals as goal
use Rattle.plan_laws.proofs.ExplainedRuns as law

pub returns : goal.returns
returns c = law.bound_is_explained
