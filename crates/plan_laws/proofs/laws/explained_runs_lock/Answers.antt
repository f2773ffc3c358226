use Rattle.plan_laws.proofs.laws.explained_runs_lock.Goals as goal
use Rattle.plan_laws.proofs.ExplainedRuns as law

pub returns : goal.returns
returns c = law.explained_runs_lock
