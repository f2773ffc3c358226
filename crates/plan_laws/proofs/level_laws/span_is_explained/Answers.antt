use Rattle.plan_laws.proofs.level_laws.span_is_explained.Goals as goal
use Rattle.plan_laws.proofs.ExplainedLevels as law

pub returns : goal.returns
returns c = law.span_is_explained
