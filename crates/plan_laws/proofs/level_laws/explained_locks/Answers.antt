use Rattle.plan_laws.proofs.level_laws.explained_locks.Goals as goal
use Rattle.plan_laws.proofs.ExplainedLevels as law

pub returns : goal.returns
returns c = law.explained_locks
