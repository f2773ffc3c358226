use Rattle.replicated_log.proofs.laws.logs_are_one.Goals as goal
use Rattle.replicated_log.proofs.SameLogs as law

pub returns : goal.returns
returns c = law.logs_are_one
